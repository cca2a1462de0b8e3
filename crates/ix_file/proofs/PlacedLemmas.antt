-- The term of a number, from the place of its list.
use Rattle.std.proofs.Common.{◌≡◌, ℕ, zero, suc, ◌+◌, List, [], ◌∷◌, map, get_or, slice_get, slice_range, Some, refl, sym, subst}
use Rattle.ix_text.proofs.PartsLemmas.{injected}
use Rattle.ix_file.specs.PlacedTerms.{PlacedTerm, list_place}
use Rattle.ix_file.specs.ReadLists.{list_in}
use Rattle.ix_file.specs.declared.open.terms.ListPlace.{ListPlace}

abbrev pub text_of : PlacedTerm → List ℕ
text_of term = term.term

-- The term of the number, whose list stands at the place.
pub record IsPlacedAt (terms : List PlacedTerm) (number : ℕ) (place : ListPlace) : Type 0 where
  pub term : PlacedTerm
  pub there : slice_get terms number ≡ Some term
  pub read : term ≡ get_or terms number term
  pub is : list_place term ≡ place

pub term_at : (terms : List PlacedTerm) (number : ℕ) (place : ListPlace) → slice_get (map list_place terms) number ≡ Some place → IsPlacedAt terms number place
term_at [] number place is = absurd cc
term_at (term ∷ terms) zero place is = record { term = term; there = refl; read = refl; is = injected is }
term_at (term ∷ terms) (suc number) place is =
    let later = term_at terms number place is in record { term = later.term; there = later.there; read = later.read; is = later.is }

-- what holds of the documents and the bytes of a place holds of the term's
pub to_term : (P : ℕ → List ℕ → Type 0) (section : List ℕ) (term : PlacedTerm) (place : ListPlace) (bytes : List ℕ) → list_place term ≡ place → bytes ≡ slice_range section place.start (place.start + place.size) → P place.documents bytes
    → P term.documents (list_in section term)
to_term P section term place bytes is read holds =
    subst (λ (p : ListPlace). P p.documents (slice_range section p.start (p.start + p.size))) (sym is) (subst (P place.documents) read holds)

pub from_term : (P : ℕ → List ℕ → Type 0) (section : List ℕ) (term : PlacedTerm) (place : ListPlace) (bytes : List ℕ) → list_place term ≡ place → bytes ≡ slice_range section place.start (place.start + place.size) → P term.documents (list_in section term)
    → P place.documents bytes
from_term P section term place bytes is read holds =
    subst (P place.documents) (sym read) (subst (λ (p : ListPlace). P p.documents (slice_range section p.start (p.start + p.size))) is holds)
