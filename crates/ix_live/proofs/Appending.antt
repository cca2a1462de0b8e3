-- The exchange that appends an entry keeps the rule of the log.
use Rattle.std.proofs.Common.{◌≡◌, ℕ, ◌+◌, ◌<◌, ◌==◌, Bool, true, false, List, [], ◌∷◌, ◌++◌, length, refl, ap, sym, subst, arith, inl, length-append, Option}
use Rattle.std.proofs.lemmas.List.{append-nil}
use Rattle.std.proofs.lemmas.Bool.Decides.{nat_tests}
use mathlib.Core.List.{IsPrefix}
use prog.Atomic.{either}
use Rattle.logbook.specs.Pages.{Cell, cell, keeps, no_nib, step, Moves, Goes}
use Rattle.ix_live.specs.Operations.{Operation}
use Rattle.ix_live.specs.Logs.{IsLength, Appends}
use Rattle.ix_live.proofs.Beginnings.{prefix_whole}

abbrev Entry : Type 0
Entry = List Operation

abbrev pub shown : List Entry → List Entry
shown log = []

abbrev pub moved : List Entry → List Entry → ℕ → Type 0
moved before after answer = Unit {0}

pub appends_goes : (log seen : List Entry) (asked : Entry) (state : Option ℕ) (old : ℕ) → length seen ≡ old → IsPrefix seen log
    → (same : Bool) → (length log == old) ≡ same
    → Goes IsLength shown moved 0 (seen, (no_nib, state)) (λ found. either (found == old) (old + 1) found) (Appends (step 0 old (old + 1) asked) (seen, (no_nib, state))) ((length log, true) ∷ (0, true) ∷ []) log
appends_goes log seen asked state old len pre true is =
    let here : length log ≡ old = grind (arith, nat_tests) in
    let same : seen ≡ log = prefix_whole seen log pre (omega arith) in
    let n : either (length log == old) (old + 1) (length log) ≡ length (log ++ asked ∷ []) = rw is (omega (arith, length-append log (asked ∷ []))) in (
      keeps,
      asked ∷ [],
      state,
      tt,
      ap (λ (k : ℕ). (k, true) ∷ (0, true) ∷ []) n,
      inl (refl, refl),
      rw is (ap (λ w. w ++ asked ∷ []) (sym same)),
    )
appends_goes log seen asked state old len pre false is =
    let all : log ++ [] ≡ log = append-nil log in
    let n : either (length log == old) (old + 1) (length log) ≡ length (log ++ []) = rw is (ap length (sym all)) in (
      keeps,
      [],
      state,
      tt,
      ap (λ (k : ℕ). (k, true) ∷ (0, true) ∷ []) n,
      inl (refl, refl),
      rw is (ap length all),
    )

-- whatever the log is, the exchange appends the entry to all that was seen, or finds that the log is longer
pub appends_moves : (seen : List Entry) (asked : Entry) (state : Option ℕ) (old : ℕ) → length seen ≡ old
    → Moves IsLength shown moved 0 (seen, (no_nib, state)) (λ found. either (found == old) (old + 1) found) (Appends (step 0 old (old + 1) asked) (seen, (no_nib, state)))
appends_moves seen asked state old len cells log kept pre away =
    let P : List Cell → Type 0 = λ c. (0 < length c) × ((cell c 0).1 ≡ true) × Goes IsLength shown moved 0 (seen, (no_nib, state)) (λ found. either (found == old) (old + 1) found) (Appends (step 0 old (old + 1) asked) (seen, (no_nib, state))) c log in
    subst P (sym kept) (omega arith, refl, appends_goes log seen asked state old len pre (length log == old) refl)
