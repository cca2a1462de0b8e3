-- Each list of terms has grams.
use Rattle.std.proofs.Common.{◌≡◌, ℕ, ◌+◌, ◌⊎◌, List, [], ◌∷◌, map, All, Contains, refl, sym, ap, subst, arith, inl, inr}
use Rattle.std.proofs.lemmas.Bool.{cases_Bool}
use Rattle.std.proofs.lemmas.List.Elements.{All-cons, All-nil}
use Rattle.std.proofs.lemmas.Slice.Eq.{bytes_eq-Decides}
use Rattle.std.specs.List.{flat_map}
use Rattle.std.specs.Prelude.{bytes_eq}
use Rattle.ix_text.specs.ByteOrder.{IsAscending}
use Rattle.ix_text.specs.Parts.{GramEntry, HasNumber, IsGramEntry}
use Rattle.ix_text.specs.Windows.{grams_of}
use Rattle.ix_text.proofs.AscendingLists.{contains_cases, contains_first, contains_later, contains_none}
use Rattle.ix_index_text.specs.Grams.{AreGramsOfTerms}
use Rattle.ix_text.proofs.Passing.{PassesAt, flat_all, flat_there, places}
use Rattle.ix_text.proofs.TextOrder.{in_order, order_all, order_ascends, order_inside}

-- grams of the terms
pub record HasGrams (terms : List (List ℕ)) : Type 0 where
  pub grams : List GramEntry
  pub of_terms : AreGramsOfTerms terms grams

contains_or_not : (xs : List (List ℕ)) (t : List ℕ) → Contains xs t ⊎ (Contains xs t → ⊥)
contains_or_not [] t = inr (contains_none t)
contains_or_not (x ∷ xs) t =
    elim (cases_Bool (bytes_eq x t)) [
      | inl same ↦ inl (subst (Contains (x ∷ xs)) ((bytes_eq-Decides x t).0 same) (contains_first x xs))
      | inr other ↦ elim (contains_or_not xs t) [
        | inl later ↦ inl (contains_later x xs t later)
        | inr never ↦ inr (λ has. elim (contains_cases x xs t has) [
          | inl same ↦ cc ((bytes_eq-Decides x t).1 same, other)
          | inr later ↦ never later
        ])
      ]
    ]

-- ---- the entries

-- the term of that number has the gram
abbrev HasGramAt : List (List ℕ) → List ℕ → ℕ → Type 0
HasGramAt terms gram number = PassesAt (λ term. Contains (grams_of term) gram) terms number

-- entries for the texts, each with the numbers of the terms that have it
record HasEntries (terms texts : List (List ℕ)) : Type 0 where
  entries : List GramEntry
  spelled : map (λ (e : GramEntry). e.gram) entries ≡ texts
  each : All IsGramEntry entries
  inside : (gram : List ℕ) (number : ℕ) → HasNumber entries gram number → HasGramAt terms gram number
  all : (gram : List ℕ) (number : ℕ) → Contains texts gram → HasGramAt terms gram number → HasNumber entries gram number

entries_of : (terms texts : List (List ℕ)) → ((g : List ℕ) → Contains texts g → (n : ℕ) × HasGramAt terms g n) → HasEntries terms texts
entries_of terms [] some = record {
  entries = [];
  spelled = refl;
  each = All-nil IsGramEntry;
  inside = λ gram number has. absurd (contains_none _ has.among);
  all = λ gram number has is. absurd (contains_none gram has);
}
entries_of terms (text ∷ texts) some =
    let rest = entries_of terms texts (λ g has. some g (contains_later text texts g has)) in
    let at = places (λ (term : List ℕ). Contains (grams_of term) text) (λ term. contains_or_not (grams_of term) text) terms 0 in
    let entry : GramEntry = record { gram = text; numbers = at.numbers } in
    let (first, is_first) = some text (contains_first text texts) in
    record {
      entries = entry ∷ rest.entries;
      spelled = ap (λ (ts : List (List ℕ)). text ∷ ts) rest.spelled;
      each = All-cons IsGramEntry entry rest.entries (omega (arith, (at.all first is_first).1), at.rising) rest.each;
      inside = λ gram number has.
          let found : GramEntry = record { gram = gram; numbers = has.numbers } in
          elim (contains_cases entry rest.entries found has.among) [
            | inl same ↦
                let listed = subst (λ (ns : List ℕ). Contains ns number) (sym (ap (λ (e : GramEntry). e.numbers) same)) has.listed in
                let (k, there) = at.inside number listed in
                let here : k ≡ number = omega (arith, there.0) in
                subst (λ (g : List ℕ). HasGramAt terms g number) (ap (λ (e : GramEntry). e.gram) same) (subst (HasGramAt terms text) here there.1)
            | inr later ↦ rest.inside gram number (record { numbers = has.numbers; among = later; listed = has.listed })
          ];
      all = λ gram number has is. elim (contains_cases text texts gram has) [
        | inl same ↦
            let zero_more : 0 + number ≡ number = omega arith in
            record {
              numbers = at.numbers;
              among = subst (λ (g : List ℕ). Contains (entry ∷ rest.entries) (record { gram = g; numbers = at.numbers })) same (contains_first entry rest.entries);
              listed = subst (Contains at.numbers) zero_more (at.all number (subst (λ (g : List ℕ). HasGramAt terms g number) (sym same) is));
            }
        | inr later ↦
            let there = rest.all gram number later is in
            record { numbers = there.numbers; among = contains_later entry rest.entries _ there.among; listed = there.listed }
      ];
    }

pub has_grams : (terms : List (List ℕ)) → HasGrams terms
has_grams terms =
    let texts = flat_map grams_of terms in
    let at = entries_of terms (in_order texts) (λ g has. flat_there grams_of terms g (order_inside texts g has)) in
    record {
      grams = at.entries;
      of_terms = record {
        ascending = subst IsAscending (sym at.spelled) (order_ascends texts);
        each = at.each;
        related = λ gram number. (
          λ has. let is = at.inside gram number has in record { term = is.element; numbered = is.there; windowed = is.passes },
          λ is.
              let here : HasGramAt terms gram number = record { element = is.term; there = is.numbered; passes = is.windowed } in
              at.all gram number (order_all texts gram (flat_all grams_of terms gram number here)) here,
        );
      };
    }
