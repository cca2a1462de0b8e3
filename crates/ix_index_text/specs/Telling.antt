-- That a writer was told some parts: what it keeps of them, and what it has written.
use Rattle.std.specs.Prelude.{◌≡◌, ℕ, ◌+◌, ◌-◌, ◌*◌, ◌^◌, ◌<◌, ◌≤◌, List, [], ◌∷◌, ◌++◌, Option, None, Some, length, MatchOption, IfSome}
use Rattle.std.specs.Io.KnownBytes.{Appends}
use Rattle.ix_vbyte.specs.Gaps.{next_after}
use Rattle.ix_vbyte.specs.Postings.{Posting, ArePostings, documents_of, list_bytes, list_bytes_from}
use Rattle.ix_text.specs.Parts.{DictionaryEntry, terms_of}
use Rattle.ix_text.specs.PartsLaws.{position_count}
use Rattle.ix_index_text.specs.Sections.{FrontCoded, postings_section, stop_section, documents_section, dictionary_section}
use Rattle.ix_index_text.specs.Told.{Told, entries_of, settled_front, position_total}
use Rattle.ix_index_text.specs.GramTables.{HoldsGrams}
use Rattle.ix_index_text.specs.declared.writer.dictionary.Dictionary.{Dictionary}
use Rattle.ix_index_text.specs.declared.writer.list.ListAtHand.{ListAtHand}
use Rattle.ix_index_text.specs.declared.sections.WriterSections.{WriterSections}

-- the term of the last entry, or the term before where there is none
abbrev pub last_term : List ℕ → List DictionaryEntry → List ℕ
last_term before [] = before
last_term before (entry ∷ entries) = last_term entry.term entries

-- the dictionary is that of the entries
pub record IsDictionaryOf (dictionary : Dictionary) (entries : List DictionaryEntry) : Type 0 where
  pub bytes : dictionary.bytes.items ≡ dictionary_section FrontCoded entries
  pub count : dictionary.count ≡ length entries
  pub previous : dictionary.previous.items ≡ last_term [] entries

-- the list is that of the entry
pub record IsListOfEntry (list : ListAtHand) (entry : DictionaryEntry) : Type 0 where
  pub term : list.term.items ≡ entry.term
  pub documents : list.documents ≡ length entry.postings
  pub bytes : list.bytes ≡ length (list_bytes entry.postings)
  pub next : list.next ≡ next_after 0 (documents_of entry.postings)

-- What is kept is what was told, and numbers and lengths are in range.
pub record HoldTold (sections : WriterSections) (told : Told) : Type 0 where
  pub stop : sections.stop.items ≡ stop_section told.stop
  pub documents : sections.documents.items ≡ documents_section told.rows
  pub rows : sections.rows ≡ length told.rows
  pub dictionary : IsDictionaryOf sections.dictionary told.done
  pub list : MatchOption told.at_hand (sections.list.documents ≡ 0) (IsListOfEntry sections.list)
  pub short : length sections.list.term.items ≤ 255
  pub grams : HoldsGrams sections.grams (terms_of (entries_of told))
  pub postings : sections.postings ≡ length (postings_section (entries_of told))
  pub within : sections.list.bytes ≤ sections.postings
  pub few_bytes : sections.postings ≤ 15 * position_total (entries_of told)
  pub few_documents : sections.dictionary.count + sections.list.documents ≤ position_total (entries_of told)
  pub few_positions : position_total (entries_of told) ≤ 2 ^ 28

-- What went out since `before`, and then what is pending, is the text.
pub record Spells (before now : Option (List ℕ)) (pending text : List ℕ) : Type 0 where
  pub gone : List ℕ
  pub gained : Appends before now gone
  pub spelled : gone ++ pending ≡ text

-- The writer was told this and refused nothing, and what went out with what is pending is the front of an index
-- text that this settles.
pub record IsTold (before now : Option (List ℕ)) (sections : WriterSections) (told : Told) : Type 0 where
  pub ready : sections.refusal ≡ None
  pub kept : HoldTold sections told
  pub written : Spells before now sections.pending.items (settled_front told)

-- the entry at hand, if there is one, has a posting
abbrev pub IsClosable : Told → Type 0
IsClosable told = IfSome told.at_hand (λ entry. 0 < length entry.postings)

-- an entry is at hand, its documents are before this one, and positions are few enough with so many more
pub record MayPost (told : Told) (document count : ℕ) : Type 0 where
  pub entry : DictionaryEntry
  pub at_hand : told.at_hand ≡ Some entry
  pub follows : next_after 0 (documents_of entry.postings) ≤ document
  pub few : position_total (entries_of told) + count ≤ 2 ^ 28

-- an entry is at hand, these are the bytes of postings behind its own, so many and the last of them before `next`,
-- and positions are few enough with theirs
pub record MayList (told : Told) (postings : List Posting) (documents next : ℕ) (bytes : List ℕ) : Type 0 where
  pub entry : DictionaryEntry
  pub at_hand : told.at_hand ≡ Some entry
  pub follow : ArePostings (next_after 0 (documents_of entry.postings)) (2 ^ 32 - 1) postings
  pub few : position_total (entries_of told) + position_count postings ≤ 2 ^ 28
  pub count : documents ≡ length postings
  pub last : next ≡ next_after (next_after 0 (documents_of entry.postings)) (documents_of postings)
  pub coded : bytes ≡ list_bytes_from (next_after 0 (documents_of entry.postings)) postings

-- such a posting may be told to a writer that keeps this
pub record CanPost (sections : WriterSections) (document count : ℕ) : Type 0 where
  pub told : Told
  pub kept : HoldTold sections told
  pub may : MayPost told document count

-- such bytes of postings may be told to a writer that keeps this
pub record CanList (sections : WriterSections) (documents next : ℕ) (bytes : List ℕ) : Type 0 where
  pub told : Told
  pub kept : HoldTold sections told
  pub postings : List Posting
  pub may : MayList told postings documents next bytes

-- the entry at hand may be finished in a writer that keeps this
pub record CanClose (sections : WriterSections) : Type 0 where
  pub told : Told
  pub kept : HoldTold sections told
  pub may : IsClosable told
