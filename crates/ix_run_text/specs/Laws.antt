-- What every run text shows of itself.
use Rattle.std.specs.Prelude.{◌≡◌, ℕ, ◌+◌, ◌^◌, ◌≤◌, List, [], ◌++◌, length, Option}
use Rattle.ix_text.specs.Collections.{Collection, IsLawful}
use Rattle.ix_text.specs.Parts.{DictionaryEntry, Posting}
use Rattle.ix_run_text.specs.Calls.{CallEnds, CallsLead, IsOpened}
use Rattle.ix_run_text.specs.Reading.{Faces}
use Rattle.ix_run_text.specs.RunReaders.{heading_read}
use Rattle.ix_run_text.specs.RunText.{IsRunText}
use Rattle.ix_run_text.specs.declared.run_reader.RunReader.{RunReader}

-- a run text has at least the bytes of its magic, two numbers, the count of its stop terms and the end mark
abbrev pub HasEighteenBytes : Type 0
HasEighteenBytes = (first : ℕ) (collection : Collection) (bytes : List ℕ) → IsRunText first collection bytes → 18 ≤ length bytes

-- a run text is that of one collection, counted from one number
abbrev pub RunTextTellsCollection : Type 0
RunTextTellsCollection = (first start : ℕ) (one other : Collection) (bytes : List ℕ) → IsRunText first one bytes → IsRunText start other bytes → (first ≡ start) × (one ≡ other)

-- a lawful collection has a run text for each number of its first document up to 2^28 minus its number of documents
abbrev pub CollectionHasRunText : Type 0
CollectionHasRunText =
    (first : ℕ) (collection : Collection) → IsLawful collection → first + length collection.documents ≤ 2 ^ 28 → (bytes : List ℕ) × IsRunText first collection bytes

-- and only one
abbrev pub CollectionHasOneRunText : Type 0
CollectionHasOneRunText = (first : ℕ) (collection : Collection) (one other : List ℕ) → IsRunText first collection one → IsRunText first collection other → one ≡ other

-- behind a run text stands nothing that would make a longer one
abbrev pub NoRunTextBeginsAnother : Type 0
NoRunTextBeginsAnother = (first start : ℕ) (one other : Collection) (bytes rest : List ℕ) → IsRunText first one bytes → IsRunText start other (bytes ++ rest) → rest ≡ []

-- What is read to its end is a run text of a lawful collection: whichever calls a reader that was opened on the bytes answered
-- without an error, the last with the end of the terms.
abbrev pub WhatIsReadIsRunText : {R : Type 0} → (R → Option (List ℕ)) → Type 0
WhatIsReadIsRunText {R} remaining =
    (bytes : List ℕ) (reader : RunReader R) (readers : List (RunReader R)) (terms : ℕ) (last ended : RunReader R) → IsOpened remaining bytes reader
    → CallsLead remaining reader readers terms last → CallEnds remaining last ended → (collection : Collection) × IsRunText (heading_read reader).first collection bytes

-- And a run text is read to its end: before a reader of it that has begun so many terms, the others lie ahead, so that its calls
-- return no error, but that a read or memory fails, and the end of the terms exactly if none is left.
abbrev pub RunTextIsRead : {R : Type 0} → (R → Option (List ℕ)) → Type 0
RunTextIsRead {R} remaining =
    (reader : RunReader R) (readers : List (RunReader R)) (terms : ℕ) (last : RunReader R) (entries : List DictionaryEntry) → Faces remaining reader [] entries
    → CallsLead remaining reader readers terms last
    → (postings : List Posting) × (ahead : List DictionaryEntry) × Faces remaining last postings ahead × (terms + length ahead ≡ length entries)
