-- The trigram relation of a list of terms, where a term's number is its place (IIR 3.2.2).
use Rattle.std.specs.Prelude.{◌≡◌, ℕ, ◌↔◌, List, ◌++◌, map, slice_get, Some, All, Contains}
use Rattle.ix_text.specs.ByteOrder.{IsAscending}
use Rattle.ix_text.specs.Parts.{GramEntry, HasNumber, IsGramEntry}
use Rattle.ix_text.specs.Windows.{grams_of}
use Rattle.ix_index_text.specs.Sections.{grams_section}

-- the term of that number has the gram
pub record IsGramOfTerm (terms : List (List ℕ)) (gram : List ℕ) (number : ℕ) : Type 0 where
  pub term : List ℕ
  pub numbered : slice_get terms number ≡ Some term
  pub windowed : Contains (grams_of term) gram

-- the grams list each gram of the terms with the numbers of the terms that have it, grams and numbers ascending
pub record AreGramsOfTerms (terms : List (List ℕ)) (grams : List GramEntry) : Type 0 where
  pub ascending : IsAscending (map (λ entry. entry.gram) grams)
  pub each : All IsGramEntry grams
  pub related : (gram : List ℕ) (number : ℕ) → HasNumber grams gram number ↔ IsGramOfTerm terms gram number

-- behind what there was stands the GRAMS section of the terms
pub record AppendsGrams (terms : List (List ℕ)) (old new : List ℕ) : Type 0 where
  pub grams : List GramEntry
  pub of_terms : AreGramsOfTerms terms grams
  pub appended : new ≡ old ++ grams_section grams
