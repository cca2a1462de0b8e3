-- Documents that a removal takes are found one after another.
use Rattle.std.proofs.Common.{◌≡◌, ◌∙◌, ◌⊎◌, ◌+◌, ℕ, List, [], ◌∷◌, ◌++◌, Contains, Some, add-one, ap, append_assoc, arith, inl, inr, length, length-append, refl, subst, sym, take}
use Rattle.std.specs.Prelude.{slice_get}
use Rattle.std.proofs.lemmas.Bool.{cases_lt}
use Rattle.std.proofs.Math.Seq.{take-suc}
use Rattle.std.proofs.lemmas.List.{length-take-le, length_push}
use Rattle.std.proofs.lemmas.List.Elements.{Contains-append_left, Contains-push, Contains-push_cases}
use Rattle.std.proofs.lemmas.Option.{get_or_from_slice_get, slice_get_within}
use Rattle.ix_gram.proofs.Ascending.{increasing_nil, increasing_push, none_in_nil}
use Rattle.ix_merge.proofs.Laying.{slice_get_left, slice_get_right}
use Rattle.ix_removals.specs.RemovalsText.{IsRemoved, Removal}
use Rattle.ix_archive_writer.specs.Takings.{AreTaken, IsTaken}

pub taken_none : (asked removed : List Removal) → AreTaken asked removed [] []
taken_none asked removed = record {
  numbers = [];
  ascending = increasing_nil;
  counted = refl;
  of_taken = λ number has. absurd (none_in_nil number has);
  all_numbers = λ number name is. absurd (omega (arith, slice_get_within [] number name is.numbered));
  all_names = λ number name numbered wanted. absurd (omega (arith, slice_get_within [] number name numbered));
  no_others = λ name has. absurd (none_in_nil name has);
}

module _ (asked removed : List Removal) (names : List (List ℕ)) (name : List ℕ) where
  -- the document behind these
  abbrev pub IsNext : Type 0
  IsNext = IsTaken asked removed (names ++ name ∷ []) (length names) name

  later : (number : ℕ) (other : List ℕ) → slice_get names number ≡ Some other → slice_get (names ++ name ∷ []) number ≡ Some other
  later number other numbered = slice_get_left names (name ∷ []) number (slice_get_within names number other numbered) ∙ numbered

  earlier : (number : ℕ) (other : List ℕ) → IsTaken asked removed names number other → IsTaken asked removed (names ++ name ∷ []) number other
  earlier number other is = record { numbered = later number other is.numbered; wanted = is.wanted; there = is.there }

  before_or_next : (number : ℕ) (other : List ℕ) → slice_get (names ++ name ∷ []) number ≡ Some other → (slice_get names number ≡ Some other) ⊎ ((number ≡ length names) × (name ≡ other))
  before_or_next number other numbered = elim (cases_lt number (length names)) [
    | inl low ↦ inl (sym (slice_get_left names (name ∷ []) number low) ∙ numbered)
    | inr high ↦
        let within = slice_get_within (names ++ name ∷ []) number other numbered in
        let at : number ≡ length names = omega (arith, high, within, length_push names name) in
        let found : Some name ≡ Some other = sym (slice_get_right names (name ∷ []) number 0 (omega (arith, at))) ∙ numbered in
        inr (at, cc)
  ]

  -- it is not asked for, or removed already
  pub taken_not : (taken : List (List ℕ)) → AreTaken asked removed names taken → (IsRemoved asked name (length names) → IsRemoved removed name (length names)) → AreTaken asked removed (names ++ name ∷ []) taken
  taken_not taken are gone =
      let at_next : (number : ℕ) (other : List ℕ) → (number ≡ length names) × (name ≡ other) → IsRemoved asked other number → IsRemoved removed other number
      = λ number other at wanted.
      let here = subst (λ (n : ℕ). IsRemoved asked name n) at.0 (subst (λ (t : List ℕ). IsRemoved asked t number) (sym at.1) wanted) in
      subst (λ (t : List ℕ). IsRemoved removed t number) at.1 (subst (λ (n : ℕ). IsRemoved removed name n) (sym at.0) (gone here)) in
      record {
        numbers = are.numbers;
        ascending = are.ascending;
        counted = are.counted;
        of_taken = λ number has. let found = are.of_taken number has in (found.0, earlier number found.0 found.1);
        all_numbers = λ number other is. elim (before_or_next number other is.numbered) [
          | inl before ↦ are.all_numbers number other (record { numbered = before; wanted = is.wanted; there = is.there })
          | inr next ↦ absurd (is.there (at_next number other next is.wanted))
        ];
        all_names = λ number other numbered wanted. elim (before_or_next number other numbered) [
          | inl before ↦ are.all_names number other before wanted
          | inr next ↦ inl (at_next number other next wanted)
        ];
        no_others = λ other has. let found = are.no_others other has in (found.0, earlier found.0 other found.1);
      }

  -- it is one
  pub taken_more : (taken : List (List ℕ)) → AreTaken asked removed names taken → IsRemoved asked name (length names) → ¬ (IsRemoved removed name (length names)) → AreTaken asked removed (names ++ name ∷ []) (taken ++ name ∷ [])
  taken_more taken are wanted there =
      let next : IsNext = record { numbered = slice_get_right names (name ∷ []) (length names) 0 (omega arith); wanted = wanted; there = there } in
      record {
        numbers = are.numbers ++ length names ∷ [];
        ascending = increasing_push are.numbers (length names) are.ascending (λ number has. let found = are.of_taken number has in slice_get_within names number found.0 found.1.numbered);
        counted = omega (arith, are.counted, length_push taken name, length_push are.numbers (length names));
        of_taken = λ number has. elim (Contains-push_cases are.numbers (length names) number has) [
          | inl before ↦ let found = are.of_taken number before in (found.0, earlier number found.0 found.1)
          | inr same ↦ (name, subst (λ (n : ℕ). IsTaken asked removed (names ++ name ∷ []) n name) same next)
        ];
        all_numbers = λ number other is. elim (before_or_next number other is.numbered) [
          | inl before ↦ Contains-append_left are.numbers (length names ∷ []) number (are.all_numbers number other (record { numbered = before; wanted = is.wanted; there = is.there }))
          | inr at ↦ subst (Contains (are.numbers ++ length names ∷ [])) (sym at.0) (Contains-push are.numbers (length names))
        ];
        all_names = λ number other numbered asks. elim (before_or_next number other numbered) [
          | inl before ↦ elim (are.all_names number other before asks) [
            | inl gone ↦ inl gone
            | inr has ↦ inr (Contains-append_left taken (name ∷ []) other has)
          ]
          | inr at ↦ inr (subst (Contains (taken ++ name ∷ [])) at.1 (Contains-push taken name))
        ];
        no_others = λ other has. elim (Contains-push_cases taken name other has) [
          | inl before ↦ let found = are.no_others other before in (found.0, earlier found.0 other found.1)
          | inr same ↦ (length names, subst (λ (t : List ℕ). IsTaken asked removed (names ++ name ∷ []) (length names) t) same next)
        ];
      }

-- one document more of those behind others: it is taken, or not
pub taken_step : (asked removed : List Removal) (before rest taken after : List (List ℕ)) (place number : ℕ) (name : List ℕ) → slice_get rest place ≡ Some name → number ≡ length before + place
    → AreTaken asked removed (before ++ take place rest) taken
    → (IsRemoved asked name number × ¬ (IsRemoved removed name number) × (after ≡ taken ++ name ∷ [])) ⊎ ((IsRemoved asked name number → IsRemoved removed name number) × (after ≡ taken))
    → AreTaken asked removed (before ++ take (place + 1) rest) after
taken_step asked removed before rest taken after place number name found at are either =
    let within = slice_get_within rest place name found in
    let names = before ++ take place rest in
    let one_more : before ++ take (place + 1) rest ≡ names ++ name ∷ [] =
    ap (λ (k : ℕ). before ++ take k rest) (add-one place)
    ∙ ap (λ (l : List (List ℕ)). before ++ l) (take-suc rest place name within ∙ ap (λ (t : List ℕ). take place rest ++ t ∷ []) (get_or_from_slice_get rest place name name found))
    ∙ sym (append_assoc before (take place rest) (name ∷ [])) in
    let here : number ≡ length names = omega (arith, at, length-append before (take place rest), length-take-le place rest (omega (arith, within))) in
    subst (λ (l : List (List ℕ)). AreTaken asked removed l after) (sym one_more)
    (elim either [
      | inl taken_is ↦ subst (AreTaken asked removed (names ++ name ∷ [])) (sym taken_is.2)
          (taken_more asked removed names name taken are (subst (IsRemoved asked name) here taken_is.0) (λ gone. taken_is.1 (subst (IsRemoved removed name) (sym here) gone)))
      | inr left ↦ subst (AreTaken asked removed (names ++ name ∷ [])) (sym left.1)
          (taken_not asked removed names name taken are (λ wanted. subst (IsRemoved removed name) here (left.0 (subst (IsRemoved asked name) (sym here) wanted))))
    ])
