-- A table of segments with more documents.
use Rattle.std.specs.Prelude.{◌≡◌, ℕ, ◌≤◌, List, [], ◌∷◌, ◌++◌, drop, take, length, map, Option, Some}
use Rattle.ix_text.specs.Collections.{Document, NamedText, collection_of}
use Rattle.ix_text.specs.Parts.{row_of}
use Rattle.ix_file.specs.Opened.{IsIndexOf}
use Rattle.ix_file.specs.Sections.{FrontCoded}
use Rattle.ix_merge.specs.Rows.{tokens_in}
use Rattle.ix_live.specs.Pieces.{after_adding, piece_at, pieces_in}
use Rattle.ix_scan.specs.ScansWithout.{of_documents}
use Rattle.ix_live.specs.Segments.{AreSegmentsOf, joined}
use Rattle.ix_live.specs.declared.segment.Segment.{Segment}

-- the documents of texts under a stop set
abbrev pub documents_under : List (List ℕ) → List NamedText → List Document
documents_under stop texts = (collection_of stop texts).documents

-- the segments are those of some documents under the stop set
abbrev pub HaveDocuments : List (List ℕ) → List (Option Segment) → Type 0
HaveDocuments stop segments = (lists : List (List Document)) × AreSegmentsOf stop segments lists

-- The segment in the slot takes the place of all segments from `left` on, and has the documents behind theirs.
pub record Grows (stop : List (List ℕ)) (segments : List (Option Segment)) (documents : List Document) (left : ℕ) (slot : Option Segment) : Type 0 where
  pub segment : Segment
  pub is : slot ≡ Some segment
  pub within : left ≤ length segments
  pub pieces : take left (pieces_in segments) ++ piece_at (Some segment) ∷ [] ≡ after_adding (length documents) (pieces_in segments)
  pub merged : (lists : List (List Document)) → AreSegmentsOf stop segments lists → IsIndexOf segment.volume FrontCoded (of_documents stop (joined (drop left lists) ++ documents))

-- how many tokens documents have, entries that are nothing included
abbrev pub tokens_of : List Document → ℕ
tokens_of documents = tokens_in (map row_of documents)
