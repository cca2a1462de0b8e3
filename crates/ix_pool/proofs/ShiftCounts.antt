-- How often each place was asked for, over all shifts, where their desks began fresh and closed the board.
use Rattle.std.proofs.Common.{◌≡◌, ◌≢◌, ℕ, zero, suc, ◌+◌, ◌<◌, ◌≤◌, true, false, cond, eqb, ltb, List, [], ◌∷◌, ◌++◌, map, length, drop, refl, sym, ap, subst, ◌∙◌, ⊎_elim, arith, All, eqb-true}
use Rattle.std.specs.Prelude.{Option, Some, None, slice_get, flat_map, sum_by, Contains}
use Rattle.std.specs.List.{count_by}
use mathlib.Core.Logic.{dite}
use native.Mathlib.Decide.{dec_lt}
use Rattle.std.proofs.lemmas.Option.{none-some, same_Some, slice_get_within}
use Rattle.std.proofs.lemmas.Bool.Decides.{nat_tests}
use Rattle.std.proofs.lemmas.List.{drop_at, append-nil}
use Rattle.std.proofs.lemmas.List.Sums.{sum_by-cons, sum_by-append}
use Rattle.std.proofs.lemmas.List.Folds.{flat_map-map}
use Rattle.std.proofs.lemmas.List.Concat.{flat_map-cons}
use Rattle.std.proofs.lemmas.List.Elements.{All-map, All-contains, Contains-append_left, Contains-append_right}
use Rattle.ix_board.specs.declared.step.Step.{Step}
use Rattle.ix_board.specs.declared.step.Step.TheVariants.{Claim, Deliver, GiveUp, Look}
use Rattle.ix_board.specs.Machine.{Place, open_place, held_by, done_by, given_up_by, opening, steps_by}
use Rattle.ix_board.specs.Laws.{left_by, finishes, times_finished, HasSeen}
use Rattle.ix_board.specs.Desks.{BoardView, DeskView, fresh_desk, fresh_desks, place_held, last_steps, settled, HasSeenAll, ClosesWith}
use Rattle.ix_board.proofs.BoardLaws.{seen_is_not_open}
use Rattle.ix_board.proofs.DeskEnds.{none_held_at_the_end, finished_by_desks}
use Rattle.ix_board.proofs.Endings.{get-map}
use Rattle.ix_board.proofs.FreshDesks.{length-fresh_desks}
use Rattle.ix_board.proofs.Holders.{length-opening, first_held_itself}
use Rattle.ix_board.proofs.Runs.{length-places_after}
use Rattle.ix_board.proofs.SliceGets.{get-within, get-map_range, contains_cases, contains_there}
use Rattle.ix_pool.specs.declared.maker.Asked.{Asked}
use Rattle.ix_pool.specs.Askings.{asking, asks, times_asked, first_place, NoneRefused}
use Rattle.ix_pool.specs.Shares.{gained, new_askings, all_of}
use Rattle.ix_pool.specs.Shifts.{Shift, asked_in}
use Rattle.ix_pool.specs.Working.{Answers}
use Rattle.ix_pool.proofs.Sums.{sum_same, sum_le, sum_zero, sum_map, count_flat, sum_some, count_some, all_from_get}
use Rattle.ix_pool.proofs.WorkLemmas.{same_board}

module _ {P : Type 0} where
  -- each place is asked for as often as the work on it is ended
  answered : (gives : ℕ → P → Type 0) (k : ℕ) (steps : List (Step P)) (asked : List Asked) → Answers gives steps asked → times_asked k asked ≡ count_by (finishes k) steps
  answered gives k [] [] one = refl
  answered gives k [] (a ∷ asked) one = absurd one
  answered gives k (Claim j ∷ steps) asked one =
      let rest : times_asked k asked ≡ count_by (finishes k) steps = answered gives k steps asked one in omega (arith, sum_by-cons (λ (s : Step P). cond (finishes k s) 1 0) (Claim j) steps)
  answered gives k (Look j ∷ steps) asked one =
      let rest : times_asked k asked ≡ count_by (finishes k) steps = answered gives k steps asked one in omega (arith, sum_by-cons (λ (s : Step P). cond (finishes k s) 1 0) (Look j) steps)
  answered gives k (Deliver j x ∷ steps) [] one = absurd one
  answered gives k (Deliver j x ∷ steps) (a ∷ asked) one =
      let rest : times_asked k asked ≡ count_by (finishes k) steps = answered gives k steps asked one.2 in
      let here : ◌≡◌ {A = ℕ} (cond (eqb a.place k) 1 0) (cond (eqb j k) 1 0) = ap (λ (b : Asked). cond (eqb b.place k) 1 0) one.0 in
      let made : count_by (finishes k) (Deliver j x ∷ steps) ≡ cond (eqb j k) 1 0 + count_by (finishes k) steps = sum_by-cons (λ (s : Step P). cond (finishes k s) 1 0) (Deliver j x) steps in
      let was : times_asked k (a ∷ asked) ≡ cond (eqb a.place k) 1 0 + times_asked k asked = sum_by-cons (λ (b : Asked). cond (asks k b) 1 0) a asked in
      omega arith
  answered gives k (GiveUp j ∷ steps) [] one = absurd one
  answered gives k (GiveUp j ∷ steps) (a ∷ asked) one =
      let rest : times_asked k asked ≡ count_by (finishes k) steps = answered gives k steps asked one.1 in
      let here : ◌≡◌ {A = ℕ} (cond (eqb a.place k) 1 0) (cond (eqb j k) 1 0) = ap (λ (b : Asked). cond (eqb b.place k) 1 0) one.0.1 in
      let made : count_by (finishes k) (GiveUp j ∷ steps) ≡ cond (eqb j k) 1 0 + count_by (finishes k) steps = sum_by-cons (λ (s : Step P). cond (finishes k s) 1 0) (GiveUp j) steps in
      let was : times_asked k (a ∷ asked) ≡ cond (eqb a.place k) 1 0 + times_asked k asked = sum_by-cons (λ (b : Asked). cond (asks k b) 1 0) a asked in
      omega arith

  -- an asking without an error stands for a delivery
  pub delivered : (gives : ℕ → P → Type 0) (k : ℕ) (steps : List (Step P)) (asked : List Asked) → Answers gives steps asked → Contains asked (asking k None) → (x : P) × Contains steps (Deliver k x) × gives k x
  delivered gives k [] [] one c = let h : c.0 < 0 = c.1 in absurd (omega arith)
  delivered gives k [] (a ∷ asked) one c = absurd one
  delivered gives k (Claim j ∷ steps) asked one c = let t = delivered gives k steps asked one c in (t.0, contains_there (Claim j) steps (Deliver k t.0) t.1, t.2)
  delivered gives k (Look j ∷ steps) asked one c = let t = delivered gives k steps asked one c in (t.0, contains_there (Look j) steps (Deliver k t.0) t.1, t.2)
  delivered gives k (Deliver j x ∷ steps) [] one c = absurd one
  delivered gives k (Deliver j x ∷ steps) (a ∷ asked) one c =
      ⊎_elim
      (λ here.
      let same : j ≡ k = ap (λ (b : Asked). b.place) (sym one.0 ∙ here) in
      (x, (0, omega arith, ap (λ (i : ℕ). Deliver i x) same), subst (λ i. gives i x) same one.1))
      (λ later. let t = delivered gives k steps asked one.2 later in (t.0, contains_there (Deliver j x) steps (Deliver k t.0) t.1, t.2))
      (contains_cases a asked (asking k None) c)
  delivered gives k (GiveUp j ∷ steps) [] one c = absurd one
  delivered gives k (GiveUp j ∷ steps) (a ∷ asked) one c =
      ⊎_elim
      (λ here. absurd (none-some one.0.0 (sym (ap (λ (b : Asked). b.error) (sym one.0.1 ∙ here)))))
      (λ later. let t = delivered gives k steps asked one.1 later in (t.0, contains_there (GiveUp j) steps (Deliver k t.0) t.1, t.2))
      (contains_cases a asked (asking k None) c)

  -- a place that is neither open nor held is finished once, and none is more often
  finished_most : (p : Place P) → times_finished p ≤ 1
  finished_most open_place = omega arith
  finished_most (held_by w) = omega arith
  finished_most (done_by w x) = omega arith
  finished_most (given_up_by w) = omega arith

  finished_one : (p : Place P) → p ≢ open_place → ((w : ℕ) → p ≢ held_by w) → times_finished p ≡ 1
  finished_one open_place n f = absurd (n refl)
  finished_one (held_by w) n f = absurd (f w refl)
  finished_one (done_by w x) n f = refl
  finished_one (given_up_by w) n f = refl

  pub seen_along : (b d : BoardView) (v w : ℕ) (steps run : List (Step P)) (k : ℕ) → d ≡ b → v ≡ w → steps ≡ run → HasSeen d.count d.workers v steps k → HasSeen b.count b.workers w run k
  seen_along b d v w steps run k e f g seen = let H : BoardView → ℕ → List (Step P) → Type 0 = λ c u l. HasSeen c.count c.workers u l k in subst (λ l. H b w l) g (subst (λ u. H b u steps) f (subst (λ c. H c v steps) e seen))

in_flat : {A B : Type 0} (f : A → List B) (xs : List A) (i : ℕ) (x : A) (b : B) → slice_get xs i ≡ Some x → Contains (f x) b → Contains (flat_map f xs) b
in_flat f [] i x b at c = absurd (none-some x at)
in_flat f (y ∷ xs) zero x b at c = subst (λ l. Contains l b) (sym (flat_map-cons f y xs)) (Contains-append_left (f y) (flat_map f xs) b (subst (λ u. Contains (f u) b) (sym (same_Some y x at)) c))
in_flat f (y ∷ xs) (suc i) x b at c = subst (λ l. Contains l b) (sym (flat_map-cons f y xs)) (Contains-append_right (f y) (flat_map f xs) b (in_flat f xs i x b at c))

module _ {M P : Type 0} (askings : M → List Asked) (gives : M → ℕ → P → Type 0) (follows : M → M → Type 0) where
  abbrev pub Work : Type 0
  Work = Shift askings gives follows

  abbrev pub asked : Work → List Asked
  asked = asked_in askings gives follows

  -- ---- the shares of the makers

  pub share_of : (s : Work) → gained (askings s.maker) (askings s.new_maker) ≡ asked s
  share_of s = ap (drop (length (askings s.maker))) s.work.stint.grown ∙ drop_at (askings s.maker) (asked s) (length (askings s.maker)) refl

  pub shares_are : (shifts : List Work) → new_askings askings (map (λ s. s.maker) shifts) (map (λ s. s.new_maker) shifts) ≡ map asked shifts
  shares_are [] = refl
  shares_are (s ∷ shifts) = λ i. share_of s i ∷ shares_are shifts i

  pub all_asked : (shifts : List Work) → all_of (new_askings askings (map (λ s. s.maker) shifts) (map (λ s. s.new_maker) shifts)) ≡ flat_map asked shifts
  all_asked shifts = ap all_of (shares_are shifts) ∙ flat_map-map (λ (l : List Asked). l) asked shifts

  -- ---- shifts whose desks began fresh

  abbrev pub AreFresh : BoardView → List Work → Type 0
  AreFresh board shifts = (i : ℕ) (s : Work) → slice_get shifts i ≡ Some s → s.desk ≡ fresh_desk board i

  pub are_fresh : (board : BoardView) (workers : ℕ) (shifts : List Work) → map (λ s. s.desk) shifts ≡ fresh_desks board workers → AreFresh board shifts
  are_fresh board workers shifts is i s e =
      let at : slice_get (fresh_desks board workers) i ≡ Some s.desk = ap (λ (l : List (DeskView P)). slice_get l i) (sym is) ∙ get-map (λ (t : Work). t.desk) shifts i s e in
      let h : i < length (fresh_desks {P = P} board workers) = slice_get_within (fresh_desks board workers) i s.desk at in
      let fresh : slice_get (fresh_desks board workers) i ≡ Some (fresh_desk board (0 + i)) = get-map_range (fresh_desk {P = P} board) 0 workers i (omega (arith, length-fresh_desks P board workers)) in
      same_Some s.desk (fresh_desk board (0 + i)) (sym at ∙ fresh) ∙ ap (fresh_desk board) (omega arith)

  module _ (board : BoardView) (shifts : List Work) (fresh : AreFresh board shifts) where
    -- the desk of a shift, at its end
    pub board_of_new : (i : ℕ) (s : Work) → slice_get shifts i ≡ Some s → s.new_desk.board ≡ board
    board_of_new i s e = same_board s.desk s.new_desk s.work.stint.steps s.work.stint.desk_is ∙ ap (λ (d : DeskView P). d.board) (fresh i s e)

    pub steps_of_new : (i : ℕ) (s : Work) → slice_get shifts i ≡ Some s → s.new_desk.steps ≡ s.work.stint.steps
    steps_of_new i s e = ap (λ (d : DeskView P). d.steps) s.work.stint.desk_is ∙ ap (λ (d : DeskView P). d.steps ++ s.work.stint.steps) (fresh i s e)

    pub all_own : All (λ d. d.board ≡ board) (map (λ s. s.new_desk) shifts)
    all_own = All-map (λ (d : DeskView P). d.board ≡ board) (λ (s : Work). s.new_desk) shifts (all_from_get (λ (s : Work). s.new_desk.board ≡ board) shifts board_of_new)

    -- an asking past the count there is not
    none_past : (k : ℕ) → board.count ≤ k → (i : ℕ) (s : Work) → slice_get shifts i ≡ Some s → times_asked k (asked s) ≡ 0
    none_past k past i s e =
        let B : BoardView → Type 0 = λ b. All (λ (a : Asked). a.place < b.count) (asked s) in
        let below = subst B (ap (λ (d : DeskView P). d.board) (fresh i s e)) s.work.stint.below in
        none_of (times_asked k (asked s)) refl below
      where
        none_of : (n : ℕ) → times_asked k (asked s) ≡ n → All (λ (a : Asked). a.place < board.count) (asked s) → times_asked k (asked s) ≡ 0
        none_of zero e below = e
        none_of (suc n) e below =
            let t = count_some (asks k) (asked s) (omega arith) in
            let is : t.0.place ≡ k = eqb-true t.0.place k t.2 in
            let low : t.0.place < board.count = All-contains (λ (a : Asked). a.place < board.count) (asked s) t.0 below t.1 in
            absurd (omega arith)

    ended : ℕ → Work → ℕ
    ended k s = count_by (finishes k) (settled s.new_desk)

    split_settled : (k : ℕ) (s : Work) → count_by (finishes k) (settled s.new_desk) ≡ count_by (finishes k) s.new_desk.steps + count_by (finishes k) (last_steps {P = P} (place_held s.new_desk))
    split_settled k s = sum_by-append (λ (t : Step P). cond (finishes k t) 1 0) s.new_desk.steps (last_steps (place_held s.new_desk))

    asked_as_made : (k i : ℕ) (s : Work) → slice_get shifts i ≡ Some s → times_asked k (asked s) ≡ count_by (finishes k) s.new_desk.steps
    asked_as_made k i s e = answered (gives s.maker) k s.work.stint.steps (asked s) s.work.stint.answers ∙ ap (count_by (finishes k)) (sym (steps_of_new i s e))

    asked_most : (k i : ℕ) (s : Work) → slice_get shifts i ≡ Some s → times_asked k (asked s) ≤ ended k s
    unfolding ended
    asked_most k i s e = omega (arith, asked_as_made k i s e, split_settled k s)

    asked_just : (k i : ℕ) (s : Work) → slice_get shifts i ≡ Some s → place_held s.new_desk ≡ None → times_asked k (asked s) ≡ ended k s
    unfolding ended
    asked_just k i s e none =
        let last : count_by (finishes k) (last_steps {P = P} (place_held s.new_desk)) ≡ 0 = ap (λ (o : Option ℕ). count_by (finishes k) (last_steps {P = P} o)) none in
        omega (arith, asked_as_made k i s e, split_settled k s)

    all_ended : (k : ℕ) → sum_by (λ d. count_by (finishes k) (settled d)) (map (λ s. s.new_desk) shifts) ≡ sum_by (ended k) shifts
    unfolding ended
    all_ended k = sum_map (λ (d : DeskView P). count_by (finishes k) (settled d)) (λ (s : Work). s.new_desk) shifts

    -- ---- the board was closed

    module _ (found : List (Option P)) (closed : ClosesWith board (map (λ s. s.new_desk) shifts) found) where
      place_at : (k : ℕ) → k < board.count → (p : Place P) × (slice_get (left_by board.count board.workers closed.run) k ≡ Some p)
      place_at k h = get-within (left_by board.count board.workers closed.run) k (omega (arith, length-places_after (opening {P = P} board.count board.workers) closed.run, length-opening P board.count board.workers))

      ended_as_left : (k : ℕ) (p : Place P) → slice_get (left_by board.count board.workers closed.run) k ≡ Some p → sum_by (ended k) shifts ≡ times_finished p
      ended_as_left k p at = sym (all_ended k) ∙ finished_by_desks P board (map (λ s. s.new_desk) shifts) found closed k p at

      pub none_twice : (k : ℕ) → times_asked k (flat_map asked shifts) ≤ 1
      none_twice k =
          dite (dec_lt k board.count)
          (λ h.
          let p = place_at k h in
          omega (arith, count_flat (asks k) asked shifts, sum_le (λ (s : Work). times_asked k (asked s)) (ended k) shifts (asked_most k), ended_as_left k p.0 p.1, finished_most p.0))
          (λ n. omega (arith, count_flat (asks k) asked shifts, sum_zero (λ (s : Work). times_asked k (asked s)) shifts (none_past k (omega arith))))

      -- ---- no worker was stopped

      module _ (done : (i : ℕ) (s : Work) → slice_get shifts i ≡ Some s → (place_held s.new_desk ≡ None) × HasSeenAll s.new_desk) (some : 0 < length shifts) where
        not_open : (k : ℕ) → k < board.count → slice_get (left_by board.count board.workers closed.run) k ≢ Some open_place
        not_open k h =
            let t = get-within shifts 0 some in
            let d = t.0.new_desk in
            let at = get-map (λ (s : Work). s.new_desk) shifts 0 t.0 t.1 in
            let fin = done 0 t.0 t.1 in
            let made : d.steps ≡ steps_by d.number closed.run = sym (append-nil d.steps) ∙ (ap (λ (o : Option ℕ). d.steps ++ last_steps o) (sym fin.0) ∙ sym (closed.by_desks 0 d at).1) in
            let own = board_of_new 0 t.0 t.1 in
            let low : k < d.board.count = let L : BoardView → Type 0 = λ b. k < b.count in subst L (sym own) h in
            seen_is_not_open P board.count board.workers k d.number closed.run closed.possible (seen_along board d.board d.number d.number d.steps (steps_by d.number closed.run) k own refl made (fin.1 k low))

        once_below : (k : ℕ) → k < board.count → times_asked k (flat_map asked shifts) ≡ 1
        once_below k h =
            let p = place_at k h in
            let one : times_finished p.0 ≡ 1 =
            finished_one p.0 (λ e. not_open k h (p.1 ∙ ap Some e)) (λ w e. none_held_at_the_end P board (map (λ s. s.new_desk) shifts) found closed k w all_own (p.1 ∙ ap Some e)) in
            omega (arith, count_flat (asks k) asked shifts, sum_same (λ (s : Work). times_asked k (asked s)) (ended k) shifts (λ i s e. asked_just k i s e (done i s e).0), ended_as_left k p.0 p.1)

        pub each_once : (k : ℕ) → times_asked k (flat_map asked shifts) ≡ cond (ltb k board.count) 1 0
        each_once k =
            dite (dec_lt k board.count)
            (λ h. let e : ltb k board.count ≡ true = grind (arith, nat_tests) in rw e (once_below k h))
            (λ n.
            let e : ltb k board.count ≡ false = grind (arith, nat_tests) in
            let none : times_asked k (flat_map asked shifts) ≡ 0 = omega (arith, count_flat (asks k) asked shifts, sum_zero (λ (s : Work). times_asked k (asked s)) shifts (none_past k (omega arith))) in
            rw e none)

        -- a worker's askings begin with its own place
        pub begins : (i : ℕ) (s : Work) → slice_get shifts i ≡ Some s → i < board.count → i < board.workers → first_place (asked s) None ≡ Some i
        begins i s e h g =
            let own : place_held s.desk ≡ Some i = ap place_held (fresh i s e) ∙ first_held_itself board.count board.workers i h g in
            ap (first_place (asked s)) (sym (done i s e).0) ∙ s.work.stint.first i own

        -- where nothing was refused, each place has a piece
        pub piece_at : NoneRefused (flat_map asked shifts) → (k : ℕ) → k < board.count
            → (x : P) × (slice_get found k ≡ Some (Some x)) × (i : ℕ) × (s : Work) × (slice_get shifts i ≡ Some s) × Contains (asked s) (asking k None) × gives s.maker k x
        piece_at none k h =
            let one = once_below k h in
            let t = sum_some (λ (s : Work). times_asked k (asked s)) shifts (omega (arith, count_flat (asks k) asked shifts)) in
            let i = t.0 in
            let s = t.1 in
            let at = t.2 in
            let c = count_some (asks k) (asked s) t.3 in
            let a = c.0 in
            let place : a.place ≡ k = eqb-true a.place k c.2 in
            let unrefused : a.error ≡ None = none a (in_flat asked shifts i s a at c.1) in
            let is : a ≡ asking k None = λ j. asking (place j) (unrefused j) in
            let there : Contains (asked s) (asking k None) = subst (Contains (asked s)) is c.1 in
            let d = delivered (gives s.maker) k s.work.stint.steps (asked s) s.work.stint.answers there in
            let C : List (Step P) → Type 0 = λ l. Contains l (Deliver k d.0) in
            let in_desk = subst C (sym (steps_of_new i s at)) d.1 in
            (d.0, closed.delivered i s.new_desk k d.0 (get-map (λ (u : Work). u.new_desk) shifts i s at) in_desk, i, s, at, there, d.2)
