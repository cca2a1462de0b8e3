-- Lists that stand in one list, each from the end of the one before it on.
use Rattle.std.proofs.Common.{◌≡◌, ℕ, suc, ◌+◌, ◌-◌, ◌<◌, List, [], ◌∷◌, length, All, refl, sym, ap, ap₂, ◌∙◌, inl, inr, arith, length-append}
use Rattle.std.specs.Prelude.{⊤, slice_get, flat_map}
use Rattle.std.proofs.lemmas.Bool.{cases_lt}
use Rattle.std.proofs.lemmas.List.Elements.{All-head, All-tail}
use Rattle.std.proofs.lemmas.Option.{same_Some}
use Rattle.ix_merge.proofs.Laying.{slice_get_left, slice_get_right}

-- lists of equal length that have the same at each place
pub same_at_each : {A : Type 0} (xs ys : List A) → length xs ≡ length ys → ((k : ℕ) → k < length ys → slice_get xs k ≡ slice_get ys k) → xs ≡ ys
same_at_each [] [] long same = refl
same_at_each [] (y ∷ ys) long same = absurd (omega (arith, long))
same_at_each (x ∷ xs) [] long same = absurd (omega (arith, long))
same_at_each {A} (x ∷ xs) (y ∷ ys) long same =
    ap₂ (λ (z : A) (l : List A). z ∷ l) (same_Some x y (same 0 (omega arith)))
    (same_at_each xs ys (omega (arith, long)) (λ k within. same (suc k) (omega (arith, within))))

module _ {P A : Type 0} (first : P → ℕ) (items : P → List A) where
  -- each begins at the end of the one before it
  abbrev pub AreConsecutive : ℕ → List P → Type 0
  AreConsecutive from [] = ⊤
  AreConsecutive from (p ∷ ps) = (first p ≡ from) × AreConsecutive (from + length (items p)) ps

  -- the items stand in the list, from their first number on
  abbrev pub StandsIn : List A → P → Type 0
  StandsIn xs p = (number : ℕ) → number < length (items p) → slice_get xs (first p + number) ≡ slice_get (items p) number

  stand_behind : (from : ℕ) (ps : List P) (xs : List A) → AreConsecutive from ps → All (StandsIn xs) ps → (k : ℕ) → k < length (flat_map items ps) → slice_get xs (from + k) ≡ slice_get (flat_map items ps) k
  stand_behind from [] xs laid stand k within = absurd (omega (arith, within))
  stand_behind from (p ∷ ps) xs laid stand k within =
      let rest = flat_map items ps in
      elim (cases_lt k (length (items p))) [
        | inl here ↦
            let at : from + k ≡ first p + k = omega (arith, laid.0) in
            ap (slice_get xs) at ∙ All-head (StandsIn xs) p ps stand k here ∙ sym (slice_get_left (items p) rest k here)
        | inr behind ↦
            let at : from + k ≡ from + length (items p) + (k - length (items p)) = omega (arith, behind) in
            let bound : k - length (items p) < length rest = omega (arith, behind, within, length-append (items p) rest) in
            ap (slice_get xs) at
            ∙ stand_behind (from + length (items p)) ps xs laid.1 (All-tail (StandsIn xs) p ps stand) (k - length (items p)) bound
            ∙ sym (slice_get_right (items p) rest k (k - length (items p)) (omega (arith, behind)))
      ]

  -- a list in which all stand and that is no longer is what they are one after another
  pub are_all : (ps : List P) (xs : List A) → AreConsecutive 0 ps → All (StandsIn xs) ps → length xs ≡ length (flat_map items ps) → xs ≡ flat_map items ps
  are_all ps xs laid stand long =
      same_at_each xs (flat_map items ps) long
      (λ k within.
      let at : k ≡ 0 + k = omega arith in
      ap (slice_get xs) at ∙ stand_behind 0 ps xs laid stand k within)
