-- Texts with stars, in the words of the tests and in those of patterns.
use Rattle.std.proofs.Common.{◌≡◌, ℕ, suc, Bool, true, false, ◌&&◌, eqb, List, [], ◌∷◌, Err, get_or, refl, subst, arith}
use Rattle.std.specs.List.{list_any, list_all}
use Rattle.std.proofs.lemmas.Bool.{eqb-true, eqb-false}
use Rattle.std.proofs.lemmas.List.Folds.{Any-from_list_any}
use Rattle.ix_gram.specs.Patterns.{HasStar, HasPiece}
use Rattle.ix_query_text.specs.declared.error.QueryError.TheVariants.{BareStar}
use Rattle.ix_query_text.specs.Judgement.{is_star, pattern_reading}

pub starred : (text : List ℕ) → list_any is_star text ≡ true → HasStar text
starred text some =
    let found = Any-from_list_any is_star text some in
    let is : found.1 ≡ 42 = eqb-true found.1 42 found.4 in
    (found.0, found.2, subst (λ (x : ℕ). get_or text found.0 x ≡ x) is found.3)

only_stars_by : (b : ℕ) (text : List ℕ) (here : Bool) → eqb b 42 ≡ here → (¬ (HasPiece text) → list_all is_star text ≡ true) → ¬ (HasPiece (b ∷ text)) → (here && list_all is_star text) ≡ true
only_stars_by b text true is rest none = rest (λ piece. none (suc piece.0, piece.1, omega (arith, piece.2), piece.3, piece.4))
only_stars_by b text false is rest none = absurd (none (0, b, omega arith, refl, eqb-false b 42 is))

only_stars : (text : List ℕ) → ¬ (HasPiece text) → list_all is_star text ≡ true
only_stars [] none = refl
only_stars (b ∷ text) none = only_stars_by b text (eqb b 42) refl (only_stars text) none

-- nothing but stars
pub bare : (text : List ℕ) → ¬ (HasPiece text) → pattern_reading text ≡ Err BareStar
bare text none = rw (only_stars text none) refl
