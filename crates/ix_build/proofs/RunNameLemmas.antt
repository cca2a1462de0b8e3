-- Names of runs.
use Rattle.std.proofs.Common.{◌≡◌, ℕ, List, [], ◌∷◌, ◌++◌, length, sym, ap, ◌∙◌, ⊎_elim, arith, length-append}
use Rattle.std.proofs.Math.Nat.{sub-zero}
use Rattle.std.proofs.lemmas.Bool.{cases_lt}
use Rattle.std.proofs.lemmas.List.{append-nil}
use Rattle.std.proofs.lemmas.Option.{same_Some, slice_get_within}
use Rattle.std.specs.Fmt.{char_count, format_spec, padded_integral, styled_decimal}
use Rattle.ix_files.specs.Slots.{Place}
use Rattle.ix_merge.proofs.Laying.{slice_get_left, slice_get_right}
use Rattle.ix_build.specs.RunNames.{AreRunNames, run_place, ten_digits}

-- what a format with ten places for a number writes
pub ten_digits_written : (number : ℕ) → styled_decimal (format_spec 32 0 4 10 18446744073709551615) number ≡ ten_digits number
unfolding padded_integral char_count
ten_digits_written number = simp (append-nil, sub-zero)

-- one name more
pub one_more_named : (folder : List ℕ) (names : List Place) (place : Place) → AreRunNames folder names → place ≡ run_place folder (length names) → AreRunNames folder (names ++ place ∷ [])
one_more_named folder names place named is k name at =
    let within = slice_get_within (names ++ place ∷ []) k name at in
    let more = length-append names (place ∷ []) in
    ⊎_elim
    (λ here. named k name (sym (slice_get_left names (place ∷ []) k here) ∙ at))
    (λ behind.
    let last : k ≡ length names = omega (arith, within, more, behind) in
    let same = same_Some place name (sym (slice_get_right names (place ∷ []) k 0 (omega (arith, last))) ∙ at) in
    sym same ∙ is ∙ ap (run_place folder) (sym last))
    (cases_lt k (length names))
