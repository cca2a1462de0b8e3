-- What the whole work comes to, from what all workers did and what closing the board gave.
use Rattle.std.proofs.Common.{◌≡◌, ℕ, ◌<◌, ◌≤◌, Bool, true, false, List, [], ◌∷◌, ◌++◌, map, length, drop, refl, sym, ap, subst, ◌∙◌, arith, All}
use Rattle.std.specs.Prelude.{Option, Some, None, slice_get, flat_map, IsSome, Vec, Result, Ok, Err, IfOk, IfErr}
use Rattle.std.proofs.lemmas.Option.{same_Some, slice_get_within}
use Rattle.std.proofs.lemmas.List.{length-map, drop_at, append-nil}
use Rattle.std.proofs.lemmas.List.Concat.{flat_map-cons}
use Rattle.ix_board.specs.Desks.{BoardView, DeskView, fresh_desks, place_held, HasSeenAll, ClosesWith}
use Rattle.ix_board.proofs.Closings.{got-map, got-All}
use Rattle.ix_board.proofs.Endings.{get-map}
use Rattle.ix_pool.specs.declared.pool.WorkError.{WorkError}
use Rattle.ix_pool.specs.declared.pool.WorkError.TheVariants.{Make, Memory}
use Rattle.ix_pool.specs.declared.worker.Refusal.{Refusal}
use Rattle.ix_pool.specs.declared.maker.Asked.{Asked}
use Rattle.ix_pool.specs.Askings.{first_place, times_asked, NoneRefused}
use Rattle.ix_pool.specs.Endings.{HasNoGap, EndsAs, IsEnded}
use Rattle.ix_pool.specs.Lowest.{IsLowest}
use Rattle.ix_pool.specs.Outcomes.{IsLater, CameBack, IsMade, IsStopped, Fails}
use Rattle.ix_pool.specs.Shares.{gained, new_askings, all_of, EachOnce, BeginWithOwn}
use Rattle.ix_pool.specs.Shifts.{HaveWorked}
use Rattle.ix_pool.proofs.ShiftCounts.{Work, asked, share_of, shares_are, all_asked, AreFresh, are_fresh, all_own, none_twice, each_once, begins, piece_at}
use Rattle.ix_pool.proofs.Sums.{all_from_get}

module _ {M P : Type 0} (askings : M → List Asked) (gives : M → ℕ → P → Type 0) (follows : M → M → Type 0) where
  later : (s : Work askings gives follows) → IsLater askings gives follows s.maker s.new_maker
  later s = record {
    grown = s.work.stint.grown ∙ ap (λ (l : List Asked). askings s.maker ++ l) (sym (share_of askings gives follows s));
    keeps = s.work.stint.keeps;
    goes_on = s.work.stint.goes_on;
  }

  came_back : (shifts : List (Work askings gives follows)) → CameBack askings gives follows (map (λ s. s.maker) shifts) (map (λ s. s.new_maker) shifts)
  came_back shifts = record {
    as_many = length-map shifts (λ (s : Work askings gives follows). s.new_maker) ∙ sym (length-map shifts (λ (s : Work askings gives follows). s.maker));
    each = λ w old new a b.
        let t = got-map (λ (s : Work askings gives follows). s.maker) shifts w old a in
        let u = got-map (λ (s : Work askings gives follows). s.new_maker) shifts w new b in
        let same : t.0 ≡ u.0 = same_Some t.0 u.0 (sym t.1 ∙ u.1) in
        let is_new : t.0.new_maker ≡ new = ap (λ (s : Work askings gives follows). s.new_maker) same ∙ u.2 in
        subst (λ o. IsLater askings gives follows o new) t.2 (subst (λ n. IsLater askings gives follows t.0.maker n) is_new (later t.0));
  }

  -- where no work was begun
  nothing_gained : (m : M) → gained (askings m) (askings m) ≡ []
  nothing_gained m = ap (drop (length (askings m))) (sym (append-nil (askings m))) ∙ drop_at (askings m) [] (length (askings m)) refl

  none_asked : (ms : List M) → all_of (new_askings askings ms ms) ≡ []
  none_asked [] = refl
  none_asked (m ∷ ms) = flat_map-cons (λ (l : List Asked). l) (gained (askings m) (askings m)) (new_askings askings ms ms) ∙ (ap (λ (l : List Asked). l ++ all_of (new_askings askings ms ms)) (nothing_gained m) ∙ none_asked ms)

  pub not_begun : ((m : M) → follows m m) → (makers : List M) → IsStopped askings gives follows makers makers
  not_begun itself makers = record {
    back = record {
      as_many = refl;
      each = λ w old new a b.
          subst (λ n. IsLater askings gives follows old n) (same_Some old new (sym a ∙ b))
          (record { grown = sym (append-nil (askings old)) ∙ ap (λ (l : List Asked). askings old ++ l) (sym (nothing_gained old)); keeps = λ k x. (λ h. h, λ h. h); goes_on = itself old });
    };
    none_twice = λ k. subst (λ (l : List Asked). times_asked k l ≤ 1) (sym (none_asked makers)) (omega arith);
  }

  module _ (board : BoardView) (starts makers : List M) (desks ends : List (DeskView P)) (lowest : Option Refusal) (stopped : Bool)
      (have : HaveWorked askings gives follows starts desks makers ends lowest stopped) (are : desks ≡ fresh_desks board board.workers) (some : 0 < length starts) (as_many : length starts ≡ board.workers) where
    abbrev its : Work askings gives follows → List Asked
    its = asked askings gives follows

    fresh : AreFresh askings gives follows board have.shifts
    fresh = are_fresh askings gives follows board board.workers have.shifts (have.desks_are ∙ are)

    long : length have.shifts ≡ board.workers
    long = sym (length-map have.shifts (λ (s : Work askings gives follows). s.maker)) ∙ (ap length have.makers_are ∙ as_many)

    done : stopped ≡ false → (i : ℕ) (s : Work askings gives follows) → slice_get have.shifts i ≡ Some s → (place_held s.new_desk ≡ None) × HasSeenAll s.new_desk
    done e i s at = s.work.done (got-All (λ (t : Work askings gives follows). t.stopped ≡ false) have.shifts i s (have.none_stopped e) at)

    closes : (found : List (Option P)) → ClosesWith board ends found → ClosesWith board (map (λ s. s.new_desk) have.shifts) found
    closes found closed = subst (λ l. ClosesWith board l found) (sym have.new_desks_are) closed

    shares : new_askings askings starts makers ≡ map its have.shifts
    shares = (λ i. new_askings askings (sym have.makers_are i) (sym have.new_makers_are i)) ∙ shares_are askings gives follows have.shifts

    alls : all_of (new_askings askings starts makers) ≡ flat_map its have.shifts
    alls = (λ i. all_of (new_askings askings (sym have.makers_are i) (sym have.new_makers_are i))) ∙ all_asked askings gives follows have.shifts

    back : CameBack askings gives follows starts makers
    back = subst (λ ms. CameBack askings gives follows ms makers) have.makers_are (subst (λ ns. CameBack askings gives follows (map (λ s. s.maker) have.shifts) ns) have.new_makers_are (came_back have.shifts))

    refusals : (l : Option Refusal) → lowest ≡ l → IsLowest (all_of (new_askings askings starts makers)) l
    refusals l e = subst (λ (x : List Asked). IsLowest x l) (sym alls) (subst (IsLowest (flat_map its have.shifts)) e have.lowest_is)

    unrefused : lowest ≡ None → NoneRefused (flat_map its have.shifts)
    unrefused e = subst (IsLowest (flat_map its have.shifts)) e have.lowest_is

    positive : 0 < length have.shifts
    positive = omega (arith, long, as_many, some)

    once : stopped ≡ false → (found : List (Option P)) → ClosesWith board ends found → EachOnce board.count (new_askings askings starts makers)
    once e found closed = λ k. ap (times_asked k) alls ∙ each_once askings gives follows board have.shifts fresh found (closes found closed) (done e) positive k

    own_first : stopped ≡ false → (found : List (Option P)) → ClosesWith board ends found → BeginWithOwn board.count (new_askings askings starts makers)
    own_first e found closed = λ w share h at.
        let t = got-map its have.shifts w share (ap (λ (l : List (List Asked)). slice_get l w) (sym shares) ∙ at) in
        let low : w < length have.shifts = slice_get_within have.shifts w t.0 t.1 in
        ap (λ (l : List Asked). first_place l None) (sym t.2) ∙ begins askings gives follows board have.shifts fresh found (closes found closed) (done e) positive w t.0 t.1 h (omega (arith, long))

    pub no_gap : HasNoGap board ends lowest stopped
    no_gap e none found len closed =
        all_from_get IsSome found (λ k o at.
        let h : k < length found = slice_get_within found k o at in
        let p = piece_at askings gives follows board have.shifts fresh found (closes found closed) (done e) positive (unrefused none) k (omega (arith, len)) in
        let is : Some p.0 ≡ o = same_Some (Some p.0) o (sym p.1 ∙ at) in
        subst IsSome is refl)

    abbrev Comes : {A : Type 0} → Result (Vec P A) WorkError → Type 0
    Comes result = IfOk result (λ pieces. IsMade askings gives follows starts board.count makers pieces.items) × IfErr result (λ error. Fails askings gives follows starts board.count makers error)

    comes : {A : Type 0} (found : List (Option P)) (l : Option Refusal) (b : Bool) (result : Result (Vec P A) WorkError) → lowest ≡ l → stopped ≡ b → length found ≡ board.count → ClosesWith board ends found
        → EndsAs found l b result → Comes result
    comes {A} found l true result low stop len closed e =
        let came : Comes {A = A} (Err Memory) = (tt, record { back = back; none_twice = λ k. subst (λ (x : List Asked). times_asked k x ≤ 1) (sym alls) (none_twice askings gives follows board have.shifts fresh found (closes found closed) k) }) in
        subst Comes (sym e) came
    comes {A} found (Some r) false result low stop len closed e =
        let came : Comes {A = A} (Err (Make r.place r.error)) = (tt, record { back = back; once = once stop found closed; begin = own_first stop found closed; lowest = refusals (Some r) low }) in
        subst Comes (sym e) came
    comes found None false (Err error) low stop len closed e = absurd e
    comes found None false (Ok pieces) low stop len closed e = (
      record {
        back = back;
        once = once stop found closed;
        begin = own_first stop found closed;
        none_refused = refusals None low;
        as_many = sym (length-map pieces.items (λ (x : P). Some x)) ∙ (ap length e ∙ len);
        made = λ k x at.
            let in_found : slice_get found k ≡ Some (Some x) = ap (λ (l : List (Option P)). slice_get l k) (sym e) ∙ get-map (λ (y : P). Some y) pieces.items k x at in
            let h : k < length found = slice_get_within found k (Some x) in_found in
            let p = piece_at askings gives follows board have.shifts fresh found (closes found closed) (done stop) positive (unrefused low) k (omega (arith, len)) in
            let is : p.0 ≡ x = same_Some p.0 x (same_Some (Some p.0) (Some x) (sym p.1 ∙ in_found)) in
            record {
              w = p.2;
              maker = p.3.maker;
              share = its p.3;
              numbered = ap (λ (l : List M). slice_get l p.2) (sym have.makers_are) ∙ get-map (λ (s : Work askings gives follows). s.maker) have.shifts p.2 p.3 p.4;
              shared = ap (λ (l : List (List Asked)). slice_get l p.2) shares ∙ get-map its have.shifts p.2 p.3 p.4;
              asked = p.5;
              given = subst (gives p.3.maker k) is p.6;
            };
      },
      tt,
    )

    pub outcome : {A : Type 0} (result : Result (Vec P A) WorkError) → IsEnded board ends lowest stopped result → Comes result
    outcome result ended = comes ended.0 lowest stopped result refl refl ended.1 ended.2 ended.3

    pub all_own_at_end : All (λ d. d.board ≡ board) ends
    all_own_at_end = subst (λ l. All (λ (d : DeskView P). d.board ≡ board) l) have.new_desks_are (all_own askings gives follows board have.shifts fresh)

    pub as_many_desks : length ends ≡ board.workers
    as_many_desks = ap length (sym have.new_desks_are) ∙ (length-map have.shifts (λ (s : Work askings gives follows). s.new_desk) ∙ long)
