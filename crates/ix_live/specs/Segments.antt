-- Segments: index texts that follow one another, and the documents that they are the indexes of.
use Rattle.std.specs.Prelude.{ℕ, ⊤, List, [], ◌∷◌, flat_map, Option, Some, None}
use Rattle.ix_text.specs.Collections.{Document}
use Rattle.ix_text.specs.Parts.{DocumentRow}
use Rattle.ix_file.specs.Opened.{IsIndexOf}
use Rattle.ix_file.specs.Sections.{FrontCoded}
use Rattle.ix_scan.specs.ScansWithout.{of_documents}
use Rattle.ix_live.specs.declared.segment.Segment.{Segment}

-- the names and token counts of the documents of a segment
abbrev pub rows_at : Option Segment → List DocumentRow
rows_at None = []
rows_at (Some segment) = segment.volume.parts.rows

-- those of all segments, by number
abbrev pub rows_in : List (Option Segment) → List DocumentRow
rows_in segments = flat_map rows_at segments

-- there is a segment, and it is the index of these documents under the stop set
abbrev pub IsSegmentOf : List (List ℕ) → Option Segment → List Document → Type 0
IsSegmentOf stop None documents = ⊥
IsSegmentOf stop (Some segment) documents = IsIndexOf segment.volume FrontCoded (of_documents stop documents)

-- the segments are those of these lists of documents, one each
abbrev pub AreSegmentsOf : List (List ℕ) → List (Option Segment) → List (List Document) → Type 0
AreSegmentsOf stop [] [] = ⊤
AreSegmentsOf stop [] (documents ∷ lists) = ⊥
AreSegmentsOf stop (segment ∷ segments) [] = ⊥
AreSegmentsOf stop (segment ∷ segments) (documents ∷ lists) = IsSegmentOf stop segment documents × AreSegmentsOf stop segments lists

-- lists one behind another
abbrev pub joined : {X : Type 0} → List (List X) → List X
joined lists = flat_map (λ list. list) lists
