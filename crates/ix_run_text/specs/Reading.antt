-- What a reader of a run text has read of its terms, and what it has left of them.
use Rattle.std.specs.Prelude.{◌≡◌, ◌≢◌, ℕ, List, [], ◌∷◌, ◌++◌, length, flat_map, take, string_bytes, slice_index_or, ◌-◌, ◌<◌, Option, Some, None, IfSome, option_map}
use Rattle.ix_text.specs.Parts.{DictionaryEntry, Parts, Posting, terms_of}
use Rattle.ix_text.specs.TokenNumbers.{AreDistinct, numbers_of_entries}
use Rattle.ix_postings.specs.declared.token_marks.TokenMarks.{TokenMarks}
use Rattle.ix_vbyte.specs.Gaps.{next_after}
use Rattle.ix_vbyte.specs.Postings.{documents_of, list_bytes_from, shifted}
use Rattle.ix_vbyte.specs.Walking.{postings_told}
use Rattle.ix_run_text.specs.Heads.{Heading, heading_of}
use Rattle.ix_run_text.specs.Inputs.{bytes_held, known_left}
use Rattle.ix_run_text.specs.CheckedLists.{IsChecked}
use Rattle.ix_run_text.specs.RunText.{term_bytes}
use Rattle.ix_run_text.specs.Sources.{AreWhole, IsLawfulFront, closed, extended}
use Rattle.ix_run_text.specs.declared.run_reader.Place.{Place}
use Rattle.ix_run_text.specs.declared.run_reader.Place.TheVariants.{AtTerm, Ended, Failed}
use Rattle.ix_run_text.specs.declared.run_reader.RunReader.{RunReader}

-- What a reader knows of the current list: the tokens that it marked, and the bytes that are buffered, with the list's in front.
pub record Checked : Type 0 where
  pub marks : TokenMarks
  pub held : List ℕ

-- The state of a reader: the term that it read last, or none; one above the last document given of it; how many of its postings
-- are left, and their bytes; and what it knows of its list.
pub record Standing : Type 0 where
  pub heading : Heading
  pub place : Place
  pub last : List ℕ
  pub next : ℕ
  pub documents : ℕ
  pub bytes : ℕ
  pub checked : Checked

abbrev pub checked_of : {R : Type 0} → RunReader R → Checked
checked_of reader = record { marks = reader.marks; held = bytes_held reader.input }

abbrev pub standing : {R : Type 0} → RunReader R → Standing
standing reader = record {
  heading = heading_of reader.head;
  place = reader.place;
  last = string_bytes reader.term;
  next = reader.next;
  documents = reader.documents;
  bytes = reader.bytes;
  checked = checked_of reader;
}

-- The numbers are those of the tokens of all postings that were given: with those of the list that is left they are exactly the
-- marked ones.
abbrev pub Told : Standing → List ℕ → Type 0
Told at numbers = IsChecked at.heading.rows at.checked.marks at.next at.documents at.bytes at.checked.held numbers

-- the term at hand, if one is; where a call was refused, the text that was read last
abbrev pub term_at : Place → List ℕ → Option (List ℕ)
term_at AtTerm term = Some term
term_at Failed term = Some term
term_at _ term = None

-- the last text, or none
abbrev pub last_text : List (List ℕ) → List ℕ
last_text texts = slice_index_or texts (length texts - 1) []

-- Finished entries, and the one at hand with the postings given of it, that lie behind.
pub record LieBehind (at : Standing) (finished : List DictionaryEntry) (at_hand : Option DictionaryEntry) : Type 0 where
  pub lawful : IsLawfulFront at.heading finished at_hand
  pub of_term : option_map (λ entry. entry.term) at_hand ≡ term_at at.place at.last
  pub last : at.last ≡ last_text (terms_of (closed finished at_hand []))
  pub next : IfSome at_hand (λ entry. at.next ≡ next_after 0 (documents_of entry.postings))
  pub posted : at.documents ≡ 0 → IfSome at_hand (λ entry. 0 < length entry.postings)
  pub marked : Told at (numbers_of_entries at.heading.rows (closed finished at_hand []))
  pub distinct : AreDistinct (numbers_of_entries at.heading.rows (closed finished at_hand []))

-- what a reader may have given: finished entries, and the one at hand with the postings given of it
abbrev pub HasRead : {R : Type 0} → RunReader R → List DictionaryEntry → Option DictionaryEntry → Type 0
HasRead reader finished at_hand = LieBehind (standing reader) finished at_hand

-- the bytes of the list that is left, of the entries behind it, and the end mark
abbrev pub bytes_ahead : List ℕ → List DictionaryEntry → List ℕ
bytes_ahead list entries = list ++ (flat_map term_bytes entries ++ 128 ∷ [])

-- As many postings of the term at hand as are left, in as many bytes; and behind the end no entry.
pub record AreCounted (at : Standing) (postings : List Posting) (entries : List DictionaryEntry) : Type 0 where
  pub counted : length postings ≡ at.documents
  pub sized : length (list_bytes_from at.next postings) ≡ at.bytes
  pub ended : at.place ≡ Ended → entries ≡ []

-- Postings of the term at hand, and the entries behind it, that may lie ahead, where these bytes are left if any are known.
pub record MayLieAhead (at : Standing) (left : Option (List ℕ)) (postings : List Posting) (entries : List DictionaryEntry) : Type 0 where
  pub are : AreCounted at postings entries
  pub spelled : at.place ≢ Ended → IfSome left (λ bytes. bytes ≡ bytes_ahead (list_bytes_from at.next postings) entries)
  pub whole : (finished : List DictionaryEntry) (at_hand : Option DictionaryEntry) → LieBehind at finished at_hand
      → AreWhole at.heading (closed finished at_hand postings ++ entries)

-- what a reader may yield yet
abbrev pub MayYield : {R : Type 0} → (R → Option (List ℕ)) → RunReader R → List Posting → List DictionaryEntry → Type 0
MayYield remaining reader postings entries = MayLieAhead (standing reader) (known_left remaining reader.input) postings entries

-- These postings of the term at hand, and these entries, are exactly what lies ahead in the bytes left: with what lies
-- behind they are the dictionary of a lawful collection.
pub record LieAhead (at : Standing) (left : Option (List ℕ)) (postings : List Posting) (entries : List DictionaryEntry) : Type 0 where
  pub finished : List DictionaryEntry
  pub at_hand : Option DictionaryEntry
  pub behind : LieBehind at finished at_hand
  pub are : AreCounted at postings entries
  pub whole : AreWhole at.heading (closed finished at_hand postings ++ entries)
  pub going : at.place ≢ Failed
  pub spelled : at.place ≢ Ended → left ≡ Some (bytes_ahead (list_bytes_from at.next postings) entries)

-- what stands before a reader whose bytes are those of a lawful collection
abbrev pub Faces : {R : Type 0} → (R → Option (List ℕ)) → RunReader R → List Posting → List DictionaryEntry → Type 0
Faces remaining reader postings entries = LieAhead (standing reader) (known_left remaining reader.input) postings entries

-- Postings and entries that stand before a reader whose bytes are those of a lawful collection: it may yield them.
pub record IsSure {R : Type 0} (remaining : R → Option (List ℕ)) (reader : RunReader R) : Type 0 where
  pub postings : List Posting
  pub entries : List DictionaryEntry
  pub faces : Faces remaining reader postings entries
  pub yielded : MayYield remaining reader postings entries

-- the postings that are left of the current list
abbrev pub postings_ahead : {R : Type 0} → RunReader R → List Posting
postings_ahead reader = postings_told reader.documents reader.next (take reader.bytes (bytes_held reader.input))

-- From the old state to the new one a reader passed the postings that were left of the current list.
pub record Skips {R : Type 0} (remaining : R → Option (List ℕ)) (old new : RunReader R) : Type 0 where
  pub yielded : (postings : List Posting) (entries : List DictionaryEntry) → MayYield remaining new postings entries
      → (postings ≡ []) × MayYield remaining old (postings_ahead old) entries
  pub given : (finished : List DictionaryEntry) (at_hand : Option DictionaryEntry) → HasRead old finished at_hand
      → HasRead new finished (option_map (λ entry. extended entry (postings_ahead old)) at_hand)
  pub accepted : (postings : List Posting) (entries : List DictionaryEntry) → Faces remaining old postings entries
      → (postings ≡ postings_ahead old) × Faces remaining new [] entries

-- the term at hand of a reader, if one is
abbrev pub term_of : {R : Type 0} → RunReader R → Option (List ℕ)
term_of reader = term_at reader.place (string_bytes reader.term)

-- the end mark was taken: no term is left
abbrev pub IsEnded : {R : Type 0} → RunReader R → Type 0
IsEnded reader = reader.place ≡ Ended

-- a call was refused
abbrev pub HasFailed : {R : Type 0} → RunReader R → Type 0
HasFailed reader = reader.place ≡ Failed

-- how many postings of the term at hand are left
abbrev pub postings_left : {R : Type 0} → RunReader R → ℕ
postings_left reader = reader.documents

-- of the term at hand, if there is one, no posting is left, and no call was refused
abbrev pub IsDrained : {R : Type 0} → RunReader R → Type 0
IsDrained reader = term_of reader ≢ None → (¬ (HasFailed reader)) × (postings_left reader ≡ 0)

-- The first of the entries is the one at hand, and its postings and the other entries lie ahead.
pub record BeginsFirst {R : Type 0} (remaining : R → Option (List ℕ)) (reader : RunReader R) (entries : List DictionaryEntry) : Type 0 where
  pub entry : DictionaryEntry
  pub rest : List DictionaryEntry
  pub parts : entries ≡ entry ∷ rest
  pub begun : term_of reader ≡ Some entry.term
  pub ahead : Faces remaining reader entry.postings rest

-- The posting is the first of those that lay ahead, and the others lie ahead.
pub record GivesFirst {R : Type 0} (remaining : R → Option (List ℕ)) (reader : RunReader R) (posting : Posting) (postings : List Posting) (entries : List DictionaryEntry) : Type 0 where
  pub rest : List Posting
  pub parts : postings ≡ posting ∷ rest
  pub ahead : Faces remaining reader rest entries

-- the heading of a run of these parts
abbrev pub heading_from : ℕ → Parts → Heading
heading_from first parts = record { first = first; stop = parts.stop; rows = parts.rows }

-- The reader is in the same state, and the same bytes are before it.
pub record StandsStill {R : Type 0} (old new : RunReader R) : Type 0 where
  pub stands : standing new ≡ standing old
  pub input : new.input ≡ old.input

-- The reader gave the list of exactly the postings that lay ahead, and the entries behind them lie ahead.
pub record GivesAll {R : Type 0} (remaining : R → Option (List ℕ)) (reader : RunReader R) (first next : ℕ) (before after : List ℕ) (postings : List Posting) (entries : List DictionaryEntry) : Type 0 where
  pub coded : after ≡ before ++ list_bytes_from next (shifted first postings)
  pub ahead : Faces remaining reader [] entries
