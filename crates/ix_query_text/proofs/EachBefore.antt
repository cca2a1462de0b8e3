-- What holds of each element that a walk has passed.
use Rattle.std.proofs.Common.{◌≡◌, ℕ, ◌+◌, ◌<◌, inl, inr, List, length, get_or, sym, ◌∙◌, ap, subst, arith}
use Rattle.std.proofs.lemmas.Bool.{cases_lt}
use Rattle.std.proofs.lemmas.List.{get_or_read}

-- what holds of each element before i
abbrev pub EachBefore : {X : Type 0} → (X → Type 0) → List X → ℕ → Type 0
EachBefore {X} P xs i = (k : ℕ) (d : X) → k < i → k < length xs → P (get_or xs k d)

pub each_more : {X : Type 0} (P : X → Type 0) (xs : List X) (i : ℕ) (x : X) → i < length xs → x ≡ get_or xs i x → P x → EachBefore P xs i → EachBefore P xs (i + 1)
each_more P xs i x within is here before k d below inside = elim (cases_lt k i) [
  | inl less ↦ before k d less inside
  | inr more ↦
      let same : k ≡ i = omega arith in
      let e : x ≡ get_or xs k d = get_or_read xs i x within is d ∙ ap (λ j. get_or xs j d) (sym same) in subst P e here
]
