-- The run text: a sorted run of one block of documents, as single-pass in-memory indexing leaves it (IIR 4.3).
use Rattle.std.specs.Prelude.{◌≡◌, ℕ, ◌+◌, ◌^◌, ◌≤◌, List, [], ◌∷◌, ◌++◌, length, flat_map, codes}
use Rattle.std.specs.Int.{to_le_bytes, w32}
use Rattle.ix_text.specs.Collections.{Collection, IsLawful}
use Rattle.ix_text.specs.Parts.{Parts, DictionaryEntry, ArePartsOf, row_bytes}
use Rattle.ix_run_text.specs.Heads.{Heading, parts_with}
use Rattle.ix_vbyte.specs.Code.{code_of}
use Rattle.ix_vbyte.specs.Postings.{list_bytes}
use Rattle.ix_vbyte.specs.Texts.{counted}

-- a term: the number of its documents and of the bytes of its list, and the list; documents counted from 0 within the run
abbrev pub term_bytes : DictionaryEntry → List ℕ
term_bytes entry =
    counted entry.term ++ code_of (length entry.postings) ++ counted (list_bytes entry.postings)

-- the number of the stop terms, and each of them
abbrev pub stop_bytes : List (List ℕ) → List ℕ
stop_bytes stop = code_of (length stop) ++ flat_map counted stop

-- the front of a run: magic, numbers, stop terms and documents
unfoldable pub head_bytes : ℕ → Parts → List ℕ
head_bytes first parts =
    codes "PIIXRUN1"
    ++ to_le_bytes w32 first
    ++ to_le_bytes w32 (length parts.rows)
    ++ code_of (length parts.stop)
    ++ flat_map counted parts.stop
    ++ flat_map (row_bytes code_of) parts.rows

-- the front of a run that has this heading
abbrev pub heading_bytes : Heading → List ℕ
heading_bytes heading = head_bytes heading.first (parts_with heading [])

-- the bytes of a run: its front, its terms, and the end mark
unfoldable pub run_layout : ℕ → Parts → List ℕ
run_layout first parts = head_bytes first parts ++ flat_map term_bytes parts.entries ++ 128 ∷ []

-- The bytes are the run text of this collection, its documents counted from this number.
pub record IsRunText (first : ℕ) (collection : Collection) (bytes : List ℕ) : Type 0 where
  pub lawful : IsLawful collection
  pub within : first + length collection.documents ≤ 2 ^ 28
  pub parts : Parts
  pub of_collection : ArePartsOf collection parts
  pub spelled : bytes ≡ run_layout first parts
