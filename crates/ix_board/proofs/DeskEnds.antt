-- What all desks did together, from the run that they made.
use Rattle.std.proofs.Common.{◌≡◌, ℕ, zero, suc, ◌+◌, ◌<◌, ◌≤◌, Bool, true, false, cond, eqb, ltb, ◌&&◌, List, [], ◌∷◌, refl, sym, ap, subst, ◌∙◌, eq-eqb, arith}
use native.Mathlib.Decide.{dec_lt}
use mathlib.Core.Logic.{dite}
use Rattle.std.specs.Prelude.{Option, Some, None, slice_get, sum_by}
use Rattle.std.specs.List.{Contains, count_by}
use Rattle.std.proofs.lemmas.Option.{none-some, same_Some}
use Rattle.std.proofs.lemmas.List.Sums.{sum_by-cons}
use Rattle.std.proofs.lemmas.Bool.{eqb-true}
use Rattle.ix_board.specs.declared.step.Step.{Step}
use Rattle.ix_board.specs.Machine.{Run, steps_by, held_after, first_held}
use Rattle.ix_board.specs.Laws.{finishes}
use Rattle.ix_board.specs.Desks.{BoardView, DeskView, settled, ClosesWith}
use Rattle.ix_board.specs.DeskLaws.{NoneHeldAtTheEnd, FinishedByDesks}
use Rattle.ix_board.proofs.SliceGets.{contains_there}
use Rattle.ix_board.proofs.Runs.{contains_steps}
use Rattle.ix_board.proofs.Holders.{holders, first_cases}
use Rattle.ix_board.proofs.Closings.{got-All, settled_holds_none}
use Rattle.ix_board.proofs.BoardLaws.{finished_once}

-- ---- how many elements pass a test that one alone passes

is_false : (b : Bool) → (b ≡ true → ⊥) → b ≡ false
is_false true fails = absurd (fails refl)
is_false false fails = refl

count_none : {A : Type 0} (p : A → Bool) (xs : List A) → ((i : ℕ) (x : A) → slice_get xs i ≡ Some x → p x ≡ true → ⊥) → count_by p xs ≡ 0
count_none p [] fails = refl
count_none {A} p (x ∷ xs) fails =
    let rest : count_by p xs ≡ 0 = count_none p xs (λ i y at e. fails (suc i) y at e) in
    let here : p x ≡ false = is_false (p x) (fails 0 x refl) in
    sum_by-cons (λ (y : A). cond (p y) 1 0) x xs ∙ rw (here, rest)

count_once : {A : Type 0} (p : A → Bool) (xs : List A) (i : ℕ) (x : A) → slice_get xs i ≡ Some x → p x ≡ true
    → ((j : ℕ) (y : A) → slice_get xs j ≡ Some y → p y ≡ true → j ≡ i) → count_by p xs ≡ 1
count_once p [] i x at e only = absurd (none-some x at)
count_once {A} p (y ∷ ys) zero x at e only =
    let rest : count_by p ys ≡ 0 = count_none p ys (λ j z at_j e_z. let s : suc j ≡ 0 = only (suc j) z at_j e_z in absurd (omega arith)) in
    let here : p y ≡ true = ap p (same_Some y x at) ∙ e in
    sum_by-cons (λ (z : A). cond (p z) 1 0) y ys ∙ rw (here, rest)
count_once {A} p (y ∷ ys) (suc i) x at e only =
    let rest : count_by p ys ≡ 1 = count_once p ys i x at e (λ j z at_j e_z. let s : suc j ≡ suc i = only (suc j) z at_j e_z in omega arith) in
    let here : p y ≡ false = is_false (p y) (λ t. let s : 0 ≡ suc i = only 0 y refl t in absurd (omega arith)) in
    sum_by-cons (λ (z : A). cond (p z) 1 0) y ys ∙ rw (here, rest)

module _ {P : Type 0} where
  -- whether the desk is that of worker w
  is_of : ℕ → DeskView P → Bool
  is_of w d = eqb w d.number

  -- the desks of a worker that stands in the run are one
  record AreSeated (run : Run P) (desks : List (DeskView P)) : Type 0 where
    pub seated : (w : ℕ) (s : Step P) → Contains run (w, s) → count_by (is_of w) desks ≡ 1

  share : (f : Step P → Bool) (e : ℕ × Step P) (run : Run P) (v : ℕ) → count_by f (steps_by v (e ∷ run)) ≡ cond (f e.1) (cond (eqb e.0 v) 1 0) 0 + count_by f (steps_by v run)
  share f e run v =
      elim (eqb e.0 v) as (λ t. count_by f (cond t (e.1 ∷ steps_by v run) (steps_by v run)) ≡ cond (f e.1) (cond t 1 0) 0 + count_by f (steps_by v run)) [
        | true ↦ sum_by-cons (λ (s : Step P). cond (f s) 1 0) e.1 (steps_by v run)
        | false ↦ elim (f e.1) as (λ b. count_by f (steps_by v run) ≡ cond b 0 0 + count_by f (steps_by v run)) [ true ↦ omega arith | false ↦ omega arith ]
      ]

  -- how often the steps of the desks' workers pass a test
  by_all : (Step P → Bool) → Run P → List (DeskView P) → ℕ
  by_all f run desks = sum_by (λ d. count_by f (steps_by d.number run)) desks

  by_all-cons : (f : Step P → Bool) (e : ℕ × Step P) (run : Run P) (desks : List (DeskView P)) → by_all f (e ∷ run) desks ≡ cond (f e.1) (count_by (is_of e.0) desks) 0 + by_all f run desks
  unfolding by_all is_of
  by_all-cons f e run [] = elim (f e.1) as (λ b. 0 ≡ cond b 0 0 + 0) [ true ↦ omega arith | false ↦ omega arith ]
  by_all-cons f e run (d ∷ desks) =
      let head = share f e run d.number in
      let tail = by_all-cons f e run desks in
      let a = sum_by-cons (λ (x : DeskView P). count_by f (steps_by x.number (e ∷ run))) d desks in
      let b = sum_by-cons (λ (x : DeskView P). count_by f (steps_by x.number run)) d desks in
      let c = sum_by-cons (λ (x : DeskView P). cond (eqb e.0 x.number) 1 0) d desks in
      joined (f e.1) _ _ _ _ _ _ _ _ _ a b c head tail
    where
      joined : (t : Bool) (all head tail all' head' tail' count one more : ℕ) → all ≡ head + tail → all' ≡ head' + tail' → count ≡ one + more → head ≡ cond t one 0 + head' → tail ≡ cond t more 0 + tail' → all ≡ cond t count 0 + all'
      joined true all head tail all' head' tail' count one more a b c h t = omega arith
      joined false all head tail all' head' tail' count one more a b c h t = omega arith

  none_made : (f : Step P → Bool) (desks : List (DeskView P)) → by_all f [] desks ≡ 0
  unfolding by_all
  none_made f [] = refl
  none_made f (d ∷ desks) = sum_by-cons (λ (x : DeskView P). count_by f (steps_by x.number [])) d desks ∙ omega (arith, none_made f desks)

  all_steps : (f : Step P → Bool) (run : Run P) (desks : List (DeskView P)) → AreSeated run desks → by_all f run desks ≡ count_by (λ e. f e.1) run
  all_steps f [] desks seated = none_made f desks
  all_steps f (e ∷ run) desks seated =
      let one : count_by (is_of e.0) desks ≡ 1 = seated.seated e.0 e.1 (0, omega arith, refl) in
      let rest : by_all f run desks ≡ count_by (λ d. f d.1) run = all_steps f run desks (record { seated = λ w s c. seated.seated w s (contains_there e run (w, s) c) }) in
      by_all-cons f e run desks ∙ (rw (one, rest) refl ∙ sym (sum_by-cons (λ (d : ℕ × Step P). cond (f d.1) 1 0) e run))

  -- ---- a board that was closed

  none_held : NoneHeldAtTheEnd P
  none_held board desks pieces closed k w own at =
      let told = (holders board.count board.workers closed.run closed.possible).told w k at in
      dite (dec_lt w board.workers)
      (λ h.
      let t = closed.each_worker w h in
      let d = t.1 in
      let steps : steps_by w closed.run ≡ settled d = ap (λ (v : ℕ). steps_by v closed.run) (sym t.3) ∙ (closed.by_desks t.0 d t.2).1 in
      let mine : d.board ≡ board = got-All (λ (x : DeskView P). x.board ≡ board) desks t.0 d own t.2 in
      let F : BoardView → ℕ → Option ℕ = λ b v. held_after (first_held b.count b.workers v) (settled d) in
      let none : F board w ≡ None = (λ i. F (sym mine i) (sym t.3 i)) ∙ settled_holds_none d in
      none-some k (sym none ∙ (ap (held_after (first_held board.count board.workers w)) (sym steps) ∙ told)))
      (λ n.
      let h : board.workers ≤ w = omega arith in
      let first : first_held board.count board.workers w ≡ Some k = sym (ap (held_after (first_held board.count board.workers w)) (closed.by_no_other w h)) ∙ told in
      let c = first_cases board.count board.workers w k (ltb w board.count && ltb w board.workers) refl first in
      let l : w < board.workers = c.2 in
      absurd (omega arith))

  no_step : (w : ℕ) (run : Run P) (s : Step P) → steps_by w run ≡ [] → Contains run (w, s) → ⊥
  no_step w run s none c =
      let C : List (Step P) → Type 0 = λ l. Contains l s in
      let d = subst C none (contains_steps w run s c) in
      let l : d.0 < 0 = d.1 in
      omega arith

  seated_at_end : (board : BoardView) (desks : List (DeskView P)) (pieces : List (Option P)) (closed : ClosesWith board desks pieces) → AreSeated closed.run desks
  unfolding is_of
  seated_at_end board desks pieces closed = record {
    seated = λ w s c.
        dite (dec_lt w board.workers)
        (λ h.
        let t = closed.each_worker w h in
        count_once (λ (d : DeskView P). eqb w d.number) desks t.0 t.1 t.2 (eq-eqb w t.1.number (sym t.3)) (λ j e at is. closed.apart j t.0 e t.1 at t.2 (sym (eqb-true w e.number is) ∙ sym t.3)))
        (λ n. let h : board.workers ≤ w = omega arith in absurd (no_step w closed.run s (closed.by_no_other w h) c));
  }

  settled_steps : (f : Step P → Bool) (run : Run P) (desks : List (DeskView P)) → ((i : ℕ) (d : DeskView P) → slice_get desks i ≡ Some d → steps_by d.number run ≡ settled d)
      → sum_by (λ d. count_by f (settled d)) desks ≡ by_all f run desks
  unfolding by_all
  settled_steps f run [] each = refl
  settled_steps f run (d ∷ desks) each =
      let here : count_by f (settled d) ≡ count_by f (steps_by d.number run) = ap (count_by f) (sym (each 0 d refl)) in
      let rest = settled_steps f run desks (λ i e at. each (suc i) e at) in
      let a = sum_by-cons (λ (x : DeskView P). count_by f (settled x)) d desks in
      let b = sum_by-cons (λ (x : DeskView P). count_by f (steps_by x.number run)) d desks in
      a ∙ (ap (λ (n : ℕ). n + sum_by (λ (x : DeskView P). count_by f (settled x)) desks) here ∙ (ap (λ (n : ℕ). count_by f (steps_by d.number run) + n) rest ∙ sym b))

  finished : FinishedByDesks P
  finished board desks pieces closed k p at =
      settled_steps (finishes k) closed.run desks (λ i d e. (closed.by_desks i d e).1) ∙ (all_steps (finishes k) closed.run desks (seated_at_end board desks pieces closed) ∙ finished_once P board.count board.workers k p closed.run closed.possible at)

pub none_held_at_the_end : (P : Type 0) → NoneHeldAtTheEnd P
none_held_at_the_end P = none_held

pub finished_by_desks : (P : Type 0) → FinishedByDesks P
finished_by_desks P = finished
