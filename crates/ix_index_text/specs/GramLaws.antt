-- The grams of a list of terms: they are one list, and those of a dictionary are those of its collection.
use Rattle.std.specs.Prelude.{◌≡◌, ℕ, List}
use Rattle.ix_text.specs.Collections.{Collection}
use Rattle.ix_text.specs.Parts.{Parts, GramEntry, ArePartsOf, AreGramsOf, terms_of}
use Rattle.ix_index_text.specs.Grams.{AreGramsOfTerms}

-- the grams of the terms of a collection's dictionary are the trigram relation of the collection
abbrev pub GramsOfVocabularyAreOfCollection : Type 0
GramsOfVocabularyAreOfCollection =
    (collection : Collection) (parts : Parts) (grams : List GramEntry) → ArePartsOf collection parts → AreGramsOfTerms (terms_of parts.entries) grams → AreGramsOf collection grams

-- terms have one list of grams
abbrev pub TermsHaveOneGramList : Type 0
TermsHaveOneGramList = (terms : List (List ℕ)) (one other : List GramEntry) → AreGramsOfTerms terms one → AreGramsOfTerms terms other → one ≡ other
