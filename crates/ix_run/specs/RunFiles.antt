-- A run text that is read to its end, and kept coded.
use Rattle.std.specs.Prelude.{◌≡◌, ℕ, ◌<◌, ◌++◌, List, [], length, map, string_bytes, Option, Some}
use Rattle.ix_text.specs.Parts.{DictionaryEntry, Posting}
use Rattle.ix_run_text.specs.Reading.{Faces, HasRead, IsDrained, MayYield, term_of}
use Rattle.ix_run.specs.Runs.{TermValue, coded}
use Rattle.ix_run_text.specs.Sources.{entry_with, extended}
use Rattle.ix_run.specs.declared.read.ReadTerm.{ReadTerm}
use Rattle.ix_run_text.specs.declared.run_reader.RunReader.{RunReader}

-- a term that was read, as its value
abbrev pub read_shown : ReadTerm → TermValue
read_shown read = record { term = string_bytes read.term; documents = read.documents; last = read.last; list = read.list.items }

-- A reader of which a term was begun, and no posting given yet.
pub record HasBegun {R : Type 0} (reader : RunReader R) : Type 0 where
  pub finished : List DictionaryEntry
  pub term : List ℕ
  pub given : HasRead reader finished (Some (entry_with term []))

-- From the old state to the new one a reader gave all postings of the term at hand, which is this term.
pub record GivesTerm {R : Type 0} (remaining : R → Option (List ℕ)) (old new : RunReader R) (value : TermValue) : Type 0 where
  pub term : List ℕ
  pub postings : List Posting
  pub at_hand : term_of old ≡ Some term
  pub shown : value ≡ coded (entry_with term postings)
  pub drained : IsDrained new
  pub yielded : (entries : List DictionaryEntry) → MayYield remaining new [] entries → MayYield remaining old postings entries
  pub given : (finished : List DictionaryEntry) (entry : DictionaryEntry) → HasRead old finished (Some entry)
      → HasRead new finished (Some (extended entry postings)) × (0 < length (entry.postings ++ postings))
  pub accepted : (ahead : List Posting) (entries : List DictionaryEntry) → Faces remaining old ahead entries → (ahead ≡ postings) × Faces remaining new [] entries

-- What was read of a reader that had given nothing: all that it could yield.
pub record ReadsAll {R : Type 0} (remaining : R → Option (List ℕ)) (old : RunReader R) (values : List TermValue) : Type 0 where
  pub entries : List DictionaryEntry
  pub told : values ≡ map coded entries
  pub yielded : MayYield remaining old [] entries
  pub accepted : (ahead : List DictionaryEntry) → Faces remaining old [] ahead → ahead ≡ entries
