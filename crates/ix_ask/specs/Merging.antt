-- What a merge of run texts gives, and why there is none.
use Rattle.std.specs.Prelude.{◌≡◌, ◌⊎◌, ℕ, List, [], ◌++◌, length, map, Option, Some, slice_get}
use Rattle.std.specs.Borrow.{Bor}
use Rattle.ix_text.specs.Collections.{Collection}
use Rattle.ix_text.specs.Parts.{DictionaryEntry}
use Rattle.ix_file.specs.IndexText.{IsIndexText}
use Rattle.ix_file.specs.Sections.{FrontCoded}
use Rattle.ix_run.specs.Heads.{Heading, IsLawfulHeading, parts_with}
use Rattle.ix_run.specs.Reading.{HasRead, MayYield}
use Rattle.ix_run.specs.RunReaders.{heading_read}
use Rattle.ix_run.specs.RunText.{IsRunText, heading_bytes, run_layout}
use Rattle.ix_run.specs.RunTextErrors.{IsRefusal as IsOtherRefusal}
use Rattle.ix_run.specs.Sources.{IsUnread}
use Rattle.ix_run.specs.RunReader.{RunReader}
use Rattle.ix_run.specs.RunTextError.{RunTextError}
use Rattle.ix_merge.specs.Pieces.{IsConcatenation, Piece}
use Rattle.ix_merge.specs.Refusals.{IsRefusal}
use Rattle.ix_merge.specs.declared.merge_error.MergeError.{MergeError}
use Rattle.ix_merge.specs.declared.merge_error.MergeError.TheVariants as merge_error

-- the bytes behind references
abbrev pub texts_behind : List (Bor (List ℕ)) → List (List ℕ)
texts_behind = map (λ text. text.now)

-- The texts are the run texts of the pieces, one each.
pub record AreRunTexts (runs : List (List ℕ)) (pieces : List Piece) : Type 0 where
  pub as_many : length pieces ≡ length runs
  pub each : (place : ℕ) (run : List ℕ) (piece : Piece) → slice_get runs place ≡ Some run → slice_get pieces place ≡ Some piece
      → IsRunText piece.first piece.collection run

-- The texts are the run texts of parts of a collection, each part once, and this is the index text, of version 2, of
-- the whole.
pub record IsMergeOf (runs : List (List ℕ)) (index : List ℕ) : Type 0 where
  pub pieces : List Piece
  pub of_runs : AreRunTexts runs pieces
  pub whole : Collection
  pub concatenation : IsConcatenation pieces whole
  pub spelled : IsIndexText FrontCoded whole index

-- The text begins with the head of a run that may be.
pub record BeginsRun (run : List ℕ) (heading : Heading) : Type 0 where
  pub rest : List ℕ
  pub begins : run ≡ heading_bytes heading ++ rest
  pub lawful : IsLawfulHeading heading

-- The texts begin with these heads, one each.
pub record AreBegun (runs : List (List ℕ)) (headings : List Heading) : Type 0 where
  pub as_many : length headings ≡ length runs
  pub each : (place : ℕ) (run : List ℕ) (heading : Heading) → slice_get runs place ≡ Some run → slice_get headings place ≡ Some heading
      → BeginsRun run heading

-- why the head of a run text was not read: it has none, or memory ran out
abbrev pub RefusesHead : List ℕ → RunTextError → Type 0
RefusesHead run error = IsOtherRefusal error ⊎ ((heading : Heading) → ¬ (BeginsRun run heading))

-- Why run texts were not merged: one of them has no head, runs with these heads are not merged, or memory ran out.
pub data RefusesMerging (runs : List (List ℕ)) : MergeError RunTextError → Type 0 where
  no_head : (place : ℕ) (run : List ℕ) (error : RunTextError) → slice_get runs place ≡ Some run → RefusesHead run error
      → RefusesMerging runs (merge_error.Source place error)
  unmerged : (headings : List Heading) {error : MergeError RunTextError} → AreBegun runs headings → IsRefusal headings error → RefusesMerging runs error
  no_memory : RefusesMerging runs merge_error.Memory

-- what a slice of bytes has left to be read: all of it
abbrev pub left_in : Bor (List ℕ) → Option (List ℕ)
left_in text = Some text.now

-- The reader stands at the front of the run text: it may yield what the text spells, and nothing else.
pub record IsReading (run : List ℕ) (reader : RunReader (Bor (List ℕ))) : Type 0 where
  pub unread : IsUnread HasRead reader
  pub head : BeginsRun run (heading_read reader)
  pub yielded : (entries : List DictionaryEntry) → MayYield left_in reader [] entries
      → run ≡ run_layout (heading_read reader).first (parts_with (heading_read reader) entries)

-- So do these, one for each text.
pub record AreReading (runs : List (List ℕ)) (readers : List (RunReader (Bor (List ℕ)))) : Type 0 where
  pub as_many : length readers ≡ length runs
  pub each : (place : ℕ) (run : List ℕ) (reader : RunReader (Bor (List ℕ))) → slice_get runs place ≡ Some run → slice_get readers place ≡ Some reader
      → IsReading run reader
