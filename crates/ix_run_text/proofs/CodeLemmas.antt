-- A code or a fault that shows byte by byte.
use Rattle.std.proofs.Common.{◌≡◌, ℕ, zero, suc, ◌+◌, ◌^◌, ◌<◌, List, [], ◌∷◌, ◌++◌, Option, Some, None, IfSome, length, refl, sym, ap, ◌∙◌, subst, arith, append-nil, inl, inr}
use Rattle.std.proofs.lemmas.Bool.{cases_lt}
use Rattle.std.proofs.lemmas.List.{take-append-le, drop_all, length-append}
use Rattle.std.proofs.lemmas.List.Elements.{All-head}
use Rattle.std.specs.Io.KnownBytes.{Consumes}
use Rattle.ix_vbyte.specs.Code.{code_of, value_of, IsCode}
use Rattle.ix_vbyte.specs.Reading.{StartsWithCode, IsCut}
use Rattle.ix_vbyte.specs.declared.errors.VbError.TheVariants.{Cut}
use Rattle.ix_vbyte.proofs.Fronts.{code_or_fault, starts_as}

-- behind bytes that are no code yet, a code ends with the byte that made it one
pub ends_here : (seen : List ℕ) (byte number count : ℕ) → IsCut seen → StartsWithCode (seen ++ byte ∷ []) number count → seen ++ byte ∷ [] ≡ code_of number
ends_here seen byte number count cut s =
    let bytes = seen ++ byte ∷ [] in
    let long : length bytes ≡ length seen + 1 = length-append seen (byte ∷ []) in
    elim (cases_lt (length seen) count) [
      | inr le ↦ absurd (code_or_fault seen number count Cut (record { within = le; code = subst (IsCode number) (take-append-le count seen (byte ∷ []) le) s.code }) cut)
      | inl lt ↦
          let a = starts_as bytes number count s in
          a.0 ∙ ap (λ (xs : List ℕ). code_of number ++ xs) (drop_all count bytes (omega arith)) ∙ append-nil (code_of number)
    ]

-- six bytes are too many
pub six_too_many : (bytes : List ℕ) → length bytes ≡ 6 → IsCut bytes → ⊥
unfolding value_of
six_too_many [] e cut = absurd cc
six_too_many (a ∷ []) e cut = absurd (omega arith)
six_too_many (a ∷ b ∷ []) e cut = absurd (omega arith)
six_too_many (a ∷ b ∷ c ∷ []) e cut = absurd (omega arith)
six_too_many (a ∷ b ∷ c ∷ d ∷ []) e cut = absurd (omega arith)
six_too_many (a ∷ b ∷ c ∷ d ∷ f ∷ []) e cut = absurd (omega arith)
six_too_many (zero ∷ b ∷ c ∷ d ∷ f ∷ g ∷ []) e cut = cut.no_zero refl
six_too_many (suc a ∷ b ∷ c ∷ d ∷ f ∷ g ∷ []) e cut =
    let low : suc a < 128 = All-head (λ x. x < 128) (suc a) (b ∷ c ∷ d ∷ f ∷ g ∷ []) cut.unmarked in
    let fits : value_of (suc a ∷ b ∷ c ∷ d ∷ f ∷ g ∷ []) < 2 ^ 32 = cut.fits in
    omega arith
six_too_many (a ∷ b ∷ c ∷ d ∷ f ∷ g ∷ h ∷ more) e cut = absurd (omega arith)

-- a fault of the bytes seen, where those come first of all
pub fault_of_front : (a b : Option (List ℕ)) (seen : List ℕ) (P : List ℕ → Type 0) → Consumes a b seen → ((rest : List ℕ) → P (seen ++ rest)) → IfSome a P
fault_of_front None b seen P taken h = tt
fault_of_front (Some x) None seen P taken h = absurd taken
fault_of_front (Some x) (Some y) seen P taken h = subst P (sym taken) (h y)
