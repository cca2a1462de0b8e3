-- What is found in segments one after another.
use Rattle.std.specs.Prelude.{◌≡◌, ℕ, ◌==◌, Bool, not, List, ◌++◌, Option}
use Rattle.std.specs.List.{list_any}
use Rattle.ix_text.specs.Collections.{Document}
use Rattle.ix_query.specs.Tree.{Tree}
use Rattle.ix_query.specs.Scans.{IsScan}
use Rattle.ix_scan.specs.ScansWithout.{kept_from, of_documents}
use Rattle.ix_live.specs.Operations.{State}
use Rattle.ix_live.specs.StateScans.{IsStateScan}
use Rattle.ix_live.specs.Segments.{AreSegmentsOf, IsSegmentOf, joined}
use Rattle.ix_live.specs.declared.segment.Segment.{Segment}

-- the number is none of those that are removed
abbrev pub is_kept : List ℕ → ℕ → Bool
is_kept removed number = not (list_any (λ other. number == other) removed)

-- What a query finds in a segment, whose documents count from a first number on, was put behind what was found before.
pub record FindsIn (segment : Option Segment) (first : ℕ) (removed : List ℕ) (query : Tree) (before after : List ℕ) : Type 0 where
  pub numbers : List ℕ
  pub gained : after ≡ before ++ kept_from (is_kept removed) first numbers
  pub scanned : (stop : List (List ℕ)) (documents : List Document) → IsSegmentOf stop segment documents → IsScan (of_documents stop documents) query numbers

-- the state of documents under a stop set, of which some are removed
abbrev pub with_removed : List (List ℕ) → List Document → List ℕ → State
with_removed stop documents removed = record { collection = of_documents stop documents; removed = removed }

-- whatever documents the segments are the indexes of, the numbers are the scan of those, but for the removed ones
abbrev pub AreFound : List (Option Segment) → List ℕ → Tree → List ℕ → Type 0
AreFound segments removed query numbers =
    (stop : List (List ℕ)) (lists : List (List Document)) → AreSegmentsOf stop segments lists → IsStateScan (with_removed stop (joined lists) removed) query numbers
