-- The terms of an opened index: each with the number of its documents, and where its list stands.
use Rattle.std.specs.Prelude.{ℕ, List, map}
use Rattle.ix_file.specs.declared.open.terms.ListPlace.{ListPlace}

-- a term, in how many documents it is, and where in POSTINGS its list begins and how many bytes it has
pub record PlacedTerm : Type 0 where
  pub term : List ℕ
  pub documents : ℕ
  pub start : ℕ
  pub size : ℕ

-- the texts of terms
abbrev pub terms_in : List PlacedTerm → List (List ℕ)
terms_in terms = map (λ term. term.term) terms

-- where the list of a term stands
abbrev pub list_place : PlacedTerm → ListPlace
list_place term = record { start = term.start; size = term.size; documents = term.documents }

-- the term of a text, whose list stands there
abbrev pub placed_at : List ℕ → ListPlace → PlacedTerm
placed_at text place = record { term = text; documents = place.documents; start = place.start; size = place.size }
