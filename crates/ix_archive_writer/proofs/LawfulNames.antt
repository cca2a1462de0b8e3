-- Names that documents can have, and removals of them.
use Rattle.std.proofs.Common.{◌≡◌, ◌∙◌, ◌⊎◌, ◌↔◌, ◌+◌, ◌<◌, ℕ, List, [], ◌∷◌, ◌++◌, All, Bor, Contains, ap, get_or, inl, inr, length, subst, sym, take}
use Rattle.std.proofs.lemmas.List.{map_push, take_more}
use Rattle.std.proofs.lemmas.List.Elements.{All-nil, All-push, Contains-append_left, Contains-push, Contains-push_cases}
use Rattle.ix_text.specs.Collections.{IsName}
use Rattle.ix_text.proofs.AscendingLists.{contains_none}
use Rattle.ix_removals.specs.RemovalsText.{IsRemoved, Removal}
use Rattle.ix_archive_writer.specs.Changes.{texts_in}

-- These are the names, of those, that a document can have.
pub record AreLawful (names lawful : List (Bor (List ℕ))) : Type 0 where
  pub each : All (λ name. IsName name.now) lawful
  pub same : (name : List ℕ) → Contains (texts_in lawful) name ↔ (Contains (texts_in names) name × IsName name)

pub lawful_none : AreLawful [] []
lawful_none = record {
  each = All-nil (λ (name : Bor (List ℕ)). IsName name.now);
  same = λ name. (λ none. absurd (contains_none name none), λ both. absurd (contains_none name both.0));
}

module _ (names lawful : List (Bor (List ℕ))) (place : ℕ) (default : Bor (List ℕ)) (within : place < length names) (are : AreLawful (take place names) lawful) where
  abbrev next : Bor (List ℕ)
  next = get_or names place default

  more : texts_in (take (place + 1) names) ≡ texts_in (take place names) ++ next.now ∷ []
  more = ap texts_in (take_more names place default within) ∙ map_push (λ (name : Bor (List ℕ)). name.now) (take place names) next

  earlier : (name : List ℕ) → Contains (texts_in (take place names)) name → Contains (texts_in (take (place + 1) names)) name
  earlier name has = subst (λ (l : List (List ℕ)). Contains l name) (sym more) (Contains-append_left (texts_in (take place names)) (next.now ∷ []) name has)

  cases : (name : List ℕ) → Contains (texts_in (take (place + 1) names)) name → Contains (texts_in (take place names)) name ⊎ (next.now ≡ name)
  cases name has = Contains-push_cases (texts_in (take place names)) next.now name (subst (λ (l : List (List ℕ)). Contains l name) more has)

  pub lawful_other : ¬ (IsName next.now) → AreLawful (take (place + 1) names) lawful
  lawful_other not_one = record {
    each = are.each;
    same = λ name. (
      λ has. let known = (are.same name).0 has in (earlier name known.0, known.1),
      λ both. elim (cases name both.0) [
        | inl before ↦ (are.same name).1 (before, both.1)
        | inr last ↦ absurd (not_one (subst IsName (sym last) both.1))
      ],
    );
  }

  pub lawful_more : IsName next.now → AreLawful (take (place + 1) names) (lawful ++ next ∷ [])
  lawful_more is_one =
      let texts : texts_in (lawful ++ next ∷ []) ≡ texts_in lawful ++ next.now ∷ [] = map_push (λ (name : Bor (List ℕ)). name.now) lawful next in
      record {
        each = All-push (λ (name : Bor (List ℕ)). IsName name.now) lawful next are.each is_one;
        same = λ name. (
          λ has. elim (Contains-push_cases (texts_in lawful) next.now name (subst (λ (l : List (List ℕ)). Contains l name) texts has)) [
            | inl before ↦ let known = (are.same name).0 before in (earlier name known.0, known.1)
            | inr last ↦ (
              subst (λ (l : List (List ℕ)). Contains l name) (sym more) (subst (Contains (texts_in (take place names) ++ next.now ∷ [])) last (Contains-push (texts_in (take place names)) next.now)),
              subst IsName last is_one,
            )
          ],
          λ both. subst (λ (l : List (List ℕ)). Contains l name) (sym texts) (elim (cases name both.0) [
            | inl before ↦ Contains-append_left (texts_in lawful) (next.now ∷ []) name ((are.same name).1 (before, both.1))
            | inr last ↦ subst (Contains (texts_in lawful ++ next.now ∷ [])) last (Contains-push (texts_in lawful) next.now)
          ]),
        );
      }

-- what is removed by the names of a list is removed by those of another that has the same
pub removed_by_same : (removed removals : List Removal) (names : List (List ℕ)) (Named : List ℕ → Type 0) (below : ℕ) → ((name : List ℕ) → Contains names name ↔ Named name)
    → ((name : List ℕ) (number : ℕ) → IsRemoved removals name number ↔ (IsRemoved removed name number ⊎ (Contains names name × (number < below))))
    → (name : List ℕ) (number : ℕ) → IsRemoved removals name number ↔ (IsRemoved removed name number ⊎ (Named name × (number < below)))
removed_by_same removed removals names Named below same exact name number = (
  λ is. elim ((exact name number).0 is) [
    | inl was ↦ inl was
    | inr both ↦ inr ((same name).0 both.0, both.1)
  ],
  λ either. elim either [
    | inl was ↦ (exact name number).1 (inl was)
    | inr both ↦ (exact name number).1 (inr ((same name).1 both.0, both.1))
  ],
)
