-- What is known of a source that is a run text, as it is read, or an opened index: what is known of its part.
use Rattle.std.specs.Prelude.{◌≡◌, ◌≢◌, ℕ, ◌+◌, ◌≤◌, ⊤, List, ◌++◌, length, Option, None, option_map}
use Rattle.ix_file.specs.Postings.{list_bytes_from, shifted}
use Rattle.ix_text.specs.Parts.{DictionaryEntry, Posting}
use Rattle.ix_run.specs.Faults.{MayFault}
use Rattle.ix_run.specs.Heads.{Heading}
use Rattle.ix_run.specs.Reading.{HasFailed, HasRead, IsDrained, IsEnded, IsSure, MayYield, StandsStill, term_of}
use Rattle.ix_run.specs.RunReaders.{heading_read}
use Rattle.ix_run.specs.RunSources.{FirstExceeds, HasGiven, HasLeft, IsAlwaysSure, IsAtEnd, IsAtEndOfTerm, always_yields}
use Rattle.ix_run.specs.Sources.{AreWhole, IsLawfulFront, YieldsMore, closed}
use Rattle.ix_run.specs.ListError.{ListError}
use Rattle.ix_run.specs.ListError.TheVariants as list
use Rattle.ix_run.specs.RunTextError.{RunTextError}
use Rattle.ix_run.specs.RunTextError.TheVariants.{Memory}
use Rattle.ix_merge.specs.declared.any_source.AnySource.{AnySource}
use Rattle.ix_merge.specs.declared.any_source.AnySource.TheVariants.{Run, Index}

-- the number of its first document, its stop terms, and the rows of its documents
abbrev pub heading_of_source : {R : Type 0} → AnySource R → Heading
heading_of_source (Run run) = heading_read run
heading_of_source (Index index) = index.heading

-- the current term, if there is one
abbrev pub term_of_source : {R : Type 0} → AnySource R → Option (List ℕ)
term_of_source (Run run) = term_of run
term_of_source (Index index) = index.term

-- postings of the current term, and entries after it, that it may yield yet
abbrev pub SourceMayYield : {R : Type 0} → (R → Option (List ℕ)) → AnySource R → List Posting → List DictionaryEntry → Type 0
SourceMayYield remaining (Run run) = MayYield remaining run
SourceMayYield remaining (Index index) = HasLeft index

-- finished entries, and the current one with the postings given of it, that it may have given so far
abbrev pub SourceHasGiven : {R : Type 0} → AnySource R → List DictionaryEntry → Option DictionaryEntry → Type 0
SourceHasGiven (Run run) = HasRead run
SourceHasGiven (Index index) = HasGiven index

-- no posting of the current term is left
abbrev pub SourceIsDrained : {R : Type 0} → AnySource R → Type 0
SourceIsDrained (Run run) = IsDrained run
SourceIsDrained (Index index) = IsAtEndOfTerm index

-- no term is left
abbrev pub SourceIsEnded : {R : Type 0} → AnySource R → Type 0
SourceIsEnded (Run run) = IsEnded run
SourceIsEnded (Index index) = IsAtEnd index

-- an error that it may return yet: of an index only out of memory, and none at its end
abbrev pub SourceMayFault : {R : Type 0} → (R → Option (List ℕ)) → AnySource R → RunTextError → Type 0
SourceMayFault remaining (Run run) error = MayFault remaining run error
SourceMayFault remaining (Index index) error = (¬ (IsAtEnd index)) × (error ≡ Memory)

-- what makes its part sure
abbrev pub SourceIsSure : {R : Type 0} → (R → Option (List ℕ)) → AnySource R → Type 0
SourceIsSure remaining (Run run) = IsSure remaining run
SourceIsSure remaining (Index index) = IsAlwaysSure index

-- it is a run text that has returned an error
abbrev pub SourceHasFailed : {R : Type 0} → AnySource R → Type 0
SourceHasFailed (Run run) = HasFailed run
SourceHasFailed (Index index) = ⊥

-- What an error of a term or of a posting leaves: of an index the source unchanged, of a run text one whose calls fail.
abbrev pub IsLeftRefused : {R : Type 0} → AnySource R → AnySource R → Type 0
IsLeftRefused (Run run) left = SourceHasFailed left
IsLeftRefused (Index index) left = left ≡ Index index

-- What an error of a list leaves: of an index the source unchanged; of a run text one whose calls fail, or, out of memory, the
-- source unchanged.
abbrev pub IsLeftWithoutList : {R : Type 0} → AnySource R → AnySource R → ListError RunTextError → Type 0
IsLeftWithoutList (Run run) (Run left) error = (error ≢ list.Memory → HasFailed left) × (error ≡ list.Memory → StandsStill run left)
IsLeftWithoutList (Run run) (Index left) error = ⊥
IsLeftWithoutList (Index index) left error = left ≡ Index index

-- it is a run text
abbrev pub IsOfRunText : {R : Type 0} → AnySource R → Type 0
IsOfRunText (Run run) = ⊤
IsOfRunText (Index index) = ⊥

-- The next posting's positions exceed this room: of an index those of its next posting, of a run text those that were read.
abbrev pub LacksRoom : {R : Type 0} → AnySource R → ℕ → ℕ → Type 0
LacksRoom (Run run) room read = room ≤ read
LacksRoom (Index index) room read = FirstExceeds room index.postings

-- the room that the current list needs at most, after a document one below this number: of an index its bytes, of a run text
-- those that are left of it, and four more for its first gap
abbrev pub list_room : {R : Type 0} → AnySource R → ℕ → ℕ
list_room (Run run) next = run.bytes + 4
list_room (Index index) next = length (list_bytes_from next (shifted index.heading.first index.postings))

-- ---- its laws

-- if there is no current term, no posting of one is left
pub source_drained_without_term : {R : Type 0} (source : AnySource R) → term_of_source source ≡ None → SourceIsDrained source
source_drained_without_term (Run run) none = λ some. absurd (some none)
source_drained_without_term (Index index) none = λ some. absurd (some none)

-- what it gave so far is the front of a lawful dictionary
pub source_given_lawfully : {R : Type 0} (source : AnySource R) (finished : List DictionaryEntry) (at_hand : Option DictionaryEntry)
    → SourceHasGiven source finished at_hand → IsLawfulFront (heading_of_source source) finished at_hand
source_given_lawfully (Run run) finished at_hand read = read.lawful
source_given_lawfully (Index index) finished at_hand given = given.lawful

-- the current entry is that of the current term
pub source_given_of_term : {R : Type 0} (source : AnySource R) (finished : List DictionaryEntry) (at_hand : Option DictionaryEntry)
    → SourceHasGiven source finished at_hand → option_map (λ entry. entry.term) at_hand ≡ term_of_source source
source_given_of_term (Run run) finished at_hand read = read.of_term
source_given_of_term (Index index) finished at_hand given = given.of_term

-- what it gave so far and what it yields yet are a lawful whole
pub source_yielded_lawfully : {R : Type 0} (remaining : R → Option (List ℕ)) (source : AnySource R) (finished : List DictionaryEntry) (at_hand : Option DictionaryEntry)
    (postings : List Posting) (entries : List DictionaryEntry)
    → SourceHasGiven source finished at_hand → SourceMayYield remaining source postings entries
    → AreWhole (heading_of_source source) (closed finished at_hand postings ++ entries)
source_yielded_lawfully remaining (Run run) finished at_hand postings entries read may = may.whole finished at_hand read
source_yielded_lawfully remaining (Index index) finished at_hand postings entries given left = given.completed postings entries left

-- if it is sure, it may yield something yet
pub source_sure_yields : {R : Type 0} (remaining : R → Option (List ℕ)) (source : AnySource R) (finished : List DictionaryEntry) (at_hand : Option DictionaryEntry)
    → SourceHasGiven source finished at_hand → SourceIsSure remaining source → YieldsMore (SourceMayYield remaining) source
source_sure_yields remaining (Run run) finished at_hand read sure = record { postings = sure.postings; entries = sure.entries; yielded = sure.yielded }
source_sure_yields remaining (Index index) finished at_hand given sure =
    let more = always_yields index finished at_hand given in
    record { postings = more.postings; entries = more.entries; yielded = more.yielded }
