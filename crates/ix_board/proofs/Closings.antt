-- What closing a board gives, from what its table gives.
use Rattle.std.proofs.Common.{◌≡◌, ◌≢◌, ◌⊎◌, ℕ, zero, suc, ◌<◌, ◌≤◌, List, [], ◌∷◌, ◌++◌, map, take, length, refl, sym, ap, subst, ◌∙◌, ⊎_elim, All, arith}
use Rattle.std.specs.Prelude.{Option, Some, None, slice_get, Vec, IfSome, IfNone}
use Rattle.std.proofs.lemmas.Option.{none-some, same_Some, slice_get_within, get_or_from_slice_get}
use Rattle.std.proofs.lemmas.List.{length-map}
use mathlib.Core.Option as maybe
use mathlib.Core.Option.{some-injective, some-ne-none}
use lib.ListN.{get_elem?}
use Rattle.atomic_table.specs.Table.{Final, Seen}
use Rattle.ix_board.specs.declared.step.Step.{Step}
use Rattle.ix_board.specs.declared.step.Step.TheVariants.{Deliver, GiveUp}
use Rattle.ix_board.specs.declared.rule.Member.{Member}
use Rattle.ix_board.specs.declared.rule.Crew.{Crew}
use Rattle.ix_board.specs.Machine.{Place, open_place, held_by, done_by, given_up_by, steps_by, piece_of, opening, held_after, first_held}
use Rattle.ix_board.specs.Laws.{left_by}
use Rattle.ix_board.specs.Crews.{crew, times_in}
use Rattle.ix_board.specs.Kept.{IsKept}
use Rattle.ix_board.specs.Desks.{BoardView, DeskView, place_held, last_steps, settled, ClosesWith}
use Rattle.ix_board.specs.Ends.{EndsWith}
use Rattle.ix_board.specs.Rooms.{RoomAmong}
use Rattle.ix_board.specs.Seats.{settled_member, AreIdle}
use Rattle.ix_board.proofs.Counting.{all_there, not_in, if_same}
use Rattle.std.specs.List.{Contains}
use Rattle.std.proofs.lemmas.List.Elements.{Contains-append_left, Contains-append_cases}
use mathlib.Core.Logic.{dite}
use native.Mathlib.Decide.{dec_lt}
use Rattle.ix_board.proofs.SliceGets.{contains_cases}
use Rattle.ix_board.proofs.Runs.{delivered_stands, contains_by, contains_steps}
use Rattle.ix_board.proofs.BoardLaws.{done_as_delivered}
use Rattle.ix_board.proofs.DeskSteps.{held_after-append}
use Rattle.ix_board.proofs.Endings.{ends, get-map}

pub got-map : {A B : Type 0} (f : A → B) (xs : List A) (i : ℕ) (y : B) → slice_get (map f xs) i ≡ Some y → (x : A) × (slice_get xs i ≡ Some x) × (f x ≡ y)
got-map f [] i y e = absurd (none-some y e)
got-map f (x ∷ xs) zero y e = (x, refl, same_Some (f x) y e)
got-map f (x ∷ xs) (suc i) y e = got-map f xs i y e

pub got-All : {A : Type 0} (Q : A → Type 0) (xs : List A) (i : ℕ) (x : A) → All Q xs → slice_get xs i ≡ Some x → Q x
got-All Q xs i x all e = subst Q (get_or_from_slice_get xs i x x e) (all i x (slice_get_within xs i x e))

-- a number that at most one member has stands at one place
once_at : {P : Type 0} (ms : List (Member P)) (i j : ℕ) (m n : Member P) → times_in m.number ms ≤ 1 → slice_get ms i ≡ Some m → slice_get ms j ≡ Some n → m.number ≡ n.number → i ≡ j
once_at [] i j m n once a b same = absurd (none-some m a)
once_at (x ∷ xs) zero zero m n once a b same = refl
once_at (x ∷ xs) zero (suc j) m n once a b same =
    let here : x.number ≡ m.number = ap (λ (y : Member _). y.number) (same_Some x m a) in
    let none : times_in m.number xs ≡ 0 = omega (arith, if_same x.number m.number here) in
    absurd (not_in xs m.number j n none b (sym same))
once_at (x ∷ xs) (suc i) zero m n once a b same =
    let here : x.number ≡ m.number = ap (λ (y : Member _). y.number) (same_Some x n b) ∙ sym same in
    let none : times_in m.number xs ≡ 0 = omega (arith, if_same x.number m.number here) in
    absurd (not_in xs m.number i m none a refl)
once_at (x ∷ xs) (suc i) (suc j) m n once a b same = ap suc (once_at xs i j m n (omega arith) a b same)

last_leaves : (P : Type 0) (o : Option ℕ) → held_after {P = P} o (last_steps o) ≡ None
last_leaves P None = refl
last_leaves P (Some k) = refl

either_desk : {P : Type 0} (d : DeskView P) (back : List (DeskView P)) (i : ℕ) (e : DeskView P) → slice_get (d ∷ back) i ≡ Some e → e.number ≡ 0
    → ((k : ℕ) (x : DeskView P) → slice_get (d ∷ []) k ≡ Some x → x.number ≢ 0) → ((k : ℕ) (x : DeskView P) → slice_get back k ≡ Some x → x.number ≢ 0) → ⊥
either_desk d back zero e at n one others = one 0 e at n
either_desk d back (suc i) e at n one others = others i e at n

module _ {P : Type 0} where
  -- as `ends`, said of a seat that is known by an equation
  pub ends_at : (v b : BoardView) → v ≡ b → (id : ℕ) (u : Crew P) (words : List ℕ) (slots : List (Option P)) → u ≡ crew b.count b.workers u.members → length u.members ≡ b.workers → AreIdle b u.members
      → Final (Seen (λ s. IsKept {P = P} v.count v.workers s) id u) words slots → EndsWith b.count b.workers u.members slots
  ends_at v b same id u words slots is len idle final =
      let W : BoardView → Type 0 = λ w. Final (Seen (λ s. IsKept {P = P} w.count w.workers s) id u) words slots in
      let U : Crew P → Type 0 = λ x. Final (Seen (λ s. IsKept {P = P} b.count b.workers s) id x) words slots in
      ends P b.count b.workers id u.members words slots len idle (subst U is (subst W same final))

  -- a desk that was handed back holds none
  pub settled_holds_none : (d : DeskView P) → held_after (first_held d.board.count d.board.workers d.number) (settled d) ≡ None
  settled_holds_none d = held_after-append (first_held d.board.count d.board.workers d.number) d.steps (last_steps (place_held d)) ∙ last_leaves P (place_held d)

  pub settled_are_idle : (b : BoardView) (desks : List (DeskView P)) → All (λ (d : DeskView P). d.board ≡ b) desks → AreIdle b (map settled_member desks)
  settled_are_idle b desks own i m e =
      let t = got-map settled_member desks i m e in
      let d = t.0 in
      let mine : d.board ≡ b = got-All (λ (x : DeskView P). x.board ≡ b) desks i d own t.1 in
      let M : Member P → Type 0 = λ x. held_after (first_held b.count b.workers x.number) x.steps ≡ None in
      let B : BoardView → Type 0 = λ v. held_after (first_held v.count v.workers d.number) (settled d) ≡ None in
      subst M t.2 (subst B mine (settled_holds_none d))

  -- the desk of each worker is there
  desk_there : (b : BoardView) (desks : List (DeskView P)) (slots : List (Option P)) → EndsWith b.count b.workers (map settled_member desks) slots → length desks ≡ b.workers
      → (w : ℕ) → w < b.workers → (i : ℕ) × (d : DeskView P) × (slice_get desks i ≡ Some d) × (d.number ≡ w)
  desk_there b desks slots ended len w h =
      let has = all_there b.workers (map settled_member desks) (length-map desks settled_member ∙ len) ended.once (λ i m e. (ended.steps i m e).0) w h in
      let t = got-map settled_member desks has.0 has.1 has.2 in
      (has.0, t.0, t.1, ap (λ (m : Member P). m.number) t.2 ∙ has.3)

  pub no_room_missing : (b : BoardView) (desks : List (DeskView P)) (slots : List (Option P)) → EndsWith b.count b.workers (map settled_member desks) slots → length desks ≡ b.workers → 0 < b.workers
      → ((i : ℕ) (d : DeskView P) → slice_get desks i ≡ Some d → d.number ≢ 0) → ⊥
  no_room_missing b desks slots ended len h none =
      let t = desk_there b desks slots ended len 0 h in
      none t.0 t.1 t.2 t.3

  -- the place with a piece is done with it
  piece_is_done : (p : Place P) (x : P) → piece_of p ≡ Some x → (w : ℕ) × (p ≡ done_by w x)
  piece_is_done open_place x e = absurd (none-some x e)
  piece_is_done (held_by w) x e = absurd (none-some x e)
  piece_is_done (done_by w y) x e = (w, ap (done_by w) (same_Some y x e))
  piece_is_done (given_up_by w) x e = absurd (none-some x e)

  -- what a desk does as it is handed back delivers nothing
  not_delivered_last : (o : Option ℕ) (k : ℕ) (x : P) → Contains (last_steps o) (Deliver k x) → ⊥
  not_delivered_last None k x c = let h : c.0 < 0 = c.1 in absurd (omega arith)
  not_delivered_last (Some j) k x c = ⊎_elim (λ e. absurd (cc)) (λ d. let h : d.0 < 0 = d.1 in absurd (omega arith)) (contains_cases (GiveUp j) [] (Deliver k x) c)

  closed_delivered : (b : BoardView) (desks : List (DeskView P)) (slots : List (Option P)) → EndsWith b.count b.workers (map settled_member desks) slots
      → (i : ℕ) (d : DeskView P) (k : ℕ) (x : P) → slice_get desks i ≡ Some d → Contains d.steps (Deliver k x) → slice_get slots k ≡ Some (Some x)
  closed_delivered b desks slots ended i d k x at c =
      let known = (ended.steps i (settled_member d) (get-map settled_member desks i d at)).1 in
      let C : List (Step P) → Type 0 = λ l. Contains l (Deliver k x) in
      let in_run = contains_by d.number ended.run (Deliver k x) (subst C (sym known) (Contains-append_left d.steps (last_steps (place_held d)) (Deliver k x) c)) in
      let done = delivered_stands (opening b.count b.workers) ended.run k d.number x ended.possible in_run in
      ap (λ (l : List (Option P)). slice_get l k) ended.pieces ∙ get-map piece_of (left_by b.count b.workers ended.run) k (done_by d.number x) done

  closed_by_delivery : (b : BoardView) (desks : List (DeskView P)) (slots : List (Option P)) → EndsWith b.count b.workers (map settled_member desks) slots → length desks ≡ b.workers
      → (k : ℕ) (x : P) → slice_get slots k ≡ Some (Some x) → (i : ℕ) × (d : DeskView P) × (slice_get desks i ≡ Some d) × Contains d.steps (Deliver k x)
  closed_by_delivery b desks slots ended len k x at =
      let p = got-map piece_of (left_by b.count b.workers ended.run) k (Some x) (sym (ap (λ (l : List (Option P)). slice_get l k) ended.pieces) ∙ at) in
      let done = piece_is_done p.0 x p.2 in
      let in_run = (done_as_delivered P b.count b.workers k done.0 x ended.run ended.possible).0 (p.1 ∙ ap Some done.1) in
      let by_w = contains_steps done.0 ended.run (Deliver k x) in_run in
      dite (dec_lt done.0 b.workers)
      (λ h.
      let t = desk_there b desks slots ended len done.0 h in
      let known = (ended.steps t.0 (settled_member t.1) (get-map settled_member desks t.0 t.1 t.2)).1 in
      let N : ℕ → Type 0 = λ w. Contains (steps_by w ended.run) (Deliver k x) in
      let C : List (Step P) → Type 0 = λ l. Contains l (Deliver k x) in
      let own = subst C known (subst N (sym t.3) by_w) in (
        t.0,
        t.1,
        t.2,
        ⊎_elim (λ l. l) (λ r. absurd (not_delivered_last (place_held t.1) k x r)) (Contains-append_cases t.1.steps (last_steps (place_held t.1)) (Deliver k x) own),
      ))
      (λ n.
      let h : b.workers ≤ done.0 = omega arith in
      let C : List (Step P) → Type 0 = λ l. Contains l (Deliver k x) in
      let none = subst C (ended.strangers done.0 h) by_w in
      let l : none.0 < 0 = none.1 in
      absurd (omega arith))

  pub closes : (b : BoardView) (desks : List (DeskView P)) (slots : List (Option P)) → EndsWith b.count b.workers (map settled_member desks) slots → length desks ≡ b.workers → ClosesWith b desks slots
  closes b desks slots ended len =
      record {
        run = ended.run;
        possible = ended.possible;
        by_desks = λ i d e. ended.steps i (settled_member d) (get-map settled_member desks i d e);
        by_no_other = ended.strangers;
        each_worker = desk_there b desks slots ended len;
        apart = λ i j d e at_i at_j same.
            once_at (map settled_member desks) i j (settled_member d) (settled_member e) (ended.once d.number) (get-map settled_member desks i d at_i) (get-map settled_member desks j e at_j) same;
        pieces_are = ended.pieces;
        delivered = closed_delivered b desks slots ended;
        by_delivery = closed_by_delivery b desks slots ended len;
      }

  -- ---- while the desks are handed back

  pub room_either : {X A : Type 0} (count : ℕ) (d : DeskView P) (back : List (DeskView P)) (room its result : Option (Vec X A)) → RoomAmong count (d ∷ []) its → RoomAmong count back room
      → IfSome result (λ v. (room ≡ Some v) ⊎ (its ≡ Some v)) → IfNone result ((room ≡ None) × (its ≡ None)) → RoomAmong count (d ∷ back) result
  room_either {X} {A} count d back room its None at_d at_back some none = λ i e at n.
      let R : Option (Vec X A) → Type 0 = λ o. RoomAmong count back o in
      let I : Option (Vec X A) → Type 0 = λ o. RoomAmong count (d ∷ []) o in
      either_desk d back i e at n (subst I none.1 at_d) (subst R none.0 at_back)
  room_either {X} {A} count d back room its (Some v) at_d at_back some none =
      ⊎_elim
      (λ x. let R : Option (Vec X A) → Type 0 = λ o. RoomAmong count back o in subst R x at_back)
      (λ x. let I : Option (Vec X A) → Type 0 = λ o. RoomAmong count (d ∷ []) o in subst I x at_d)
      some

-- ---- while the pieces are taken

pub take_elem : {A : Type 0} (xs : List A) (i : ℕ) (a : A) → get_elem? xs i ≡ maybe.some a → take (suc i) xs ≡ take i xs ++ a ∷ []
take_elem [] i a e = absurd (some-ne-none a (sym e))
take_elem (x ∷ xs) zero a e = ap (λ y. y ∷ []) (some-injective x a e)
take_elem (x ∷ xs) (suc i) a e = ap (λ l. x ∷ l) (take_elem xs i a e)
