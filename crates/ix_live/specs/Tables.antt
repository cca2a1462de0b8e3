-- Tables of segments, and how a new one is merged with the last ones.
use Rattle.std.specs.Prelude.{ℕ, List, ◌++◌, drop, Option}
use Rattle.ix_text.specs.Collections.{Document}
use Rattle.ix_file.specs.Opened.{IsIndexOf, Opened}
use Rattle.ix_file.specs.Sections.{FrontCoded}
use Rattle.ix_scan.specs.ScansWithout.{of_documents}
use Rattle.ix_live.specs.Segments.{AreSegmentsOf, joined}
use Rattle.ix_live.specs.declared.segment.Segment.{Segment}

-- The segments and an index are those of some documents under one stop set.
pub record AreIndexed (segments : List (Option Segment)) (opened : Opened) : Type 0 where
  pub stop : List (List ℕ)
  pub lists : List (List Document)
  pub documents : List Document
  pub of_lists : AreSegmentsOf stop segments lists
  pub of_documents : IsIndexOf opened FrontCoded (of_documents stop documents)

-- whatever documents the segments and an index are those of, the merged index is that of the documents of the segments
-- from a place on, and then those of the index
abbrev pub Merges : List (Option Segment) → ℕ → Opened → Opened → Type 0
Merges segments left opened merged =
    (stop : List (List ℕ)) (lists : List (List Document)) (documents : List Document) → AreSegmentsOf stop segments lists → IsIndexOf opened FrontCoded (of_documents stop documents)
    → IsIndexOf merged FrontCoded (of_documents stop (joined (drop left lists) ++ documents))
