-- What an opened index says of its collection.
use Rattle.std.specs.Prelude.{◌≡◌, ℕ, ◌↔◌, List, slice_get, Some, Contains}
use Rattle.ix_text.specs.Collections.{Collection, HasGram, HasPosting}
use Rattle.ix_text.specs.Parts.{DictionaryEntry, HasPosition, Posting, terms_of}
use Rattle.ix_file.specs.Opened.{IsIndexOf, Opened, gram_texts, lists_of}
use Rattle.ix_index_text.specs.Sections.{Version}

-- the postings under a term are exactly those of the term in the collection
abbrev pub EntriesHavePostings : Type 0
EntriesHavePostings =
    (opened : Opened) (version : Version) (collection : Collection) (entry : DictionaryEntry) → IsIndexOf opened version collection → Contains opened.parts.entries entry
    → (number position : ℕ) → HasPosition entry.postings number position ↔ HasPosting collection entry.term number position

-- and a term that is not there has none
abbrev pub OthersHaveNoPosting : Type 0
OthersHaveNoPosting =
    (opened : Opened) (version : Version) (collection : Collection) (term : List ℕ) → IsIndexOf opened version collection → ¬ (Contains (terms_of opened.parts.entries) term)
    → (number position : ℕ) → ¬ (HasPosting collection term number position)

-- the term and the postings of one number are those of one entry
abbrev pub NumbersTellEntries : Type 0
NumbersTellEntries =
    (entries : List DictionaryEntry) (number : ℕ) (term : List ℕ) (postings : List Posting) → slice_get (terms_of entries) number ≡ Some term → slice_get (lists_of entries) number ≡ Some postings
    → Contains entries (record { term = term; postings = postings })

-- the numbers under a gram are exactly those of the terms that have it
abbrev pub GramsHaveNumbers : Type 0
GramsHaveNumbers =
    (opened : Opened) (version : Version) (collection : Collection) (gram numbers : List ℕ) → IsIndexOf opened version collection → Contains opened.grams (record { gram = gram; numbers = numbers })
    → (number : ℕ) → Contains numbers number ↔ HasGram collection gram number

-- and a gram that is not there is that of no term
abbrev pub OthersAreNoGram : Type 0
OthersAreNoGram =
    (opened : Opened) (version : Version) (collection : Collection) (gram : List ℕ) → IsIndexOf opened version collection → ¬ (Contains (gram_texts opened.grams) gram)
    → (number : ℕ) → ¬ (HasGram collection gram number)
