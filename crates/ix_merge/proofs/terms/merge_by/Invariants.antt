use Rattle.std.proofs.Common.{◌≡◌, ℕ, ◌+◌, ◌-◌, ◌*◌, ◌^◌, List, [], All, Option, map, length, string_bytes}
use Rattle.ix_file.specs.Told.{Told, entries_of}
use Rattle.ix_file.specs.Writers.{WasTold, sink_name}
use Rattle.ix_merge.specs.Keys.{keys_of}
use Rattle.ix_merge.specs.Merging.{KeepFaults}
use Rattle.ix_merge.specs.WinnerTrees.{IsWinnerTree}
use Rattle.ix_merge.proofs.Behind.{AreBehind}
use Rattle.ix_merge.proofs.MergingSteps.{IsMerging}
use Rattle.ix_merge.proofs.terms.merge_by.Given as goal

abbrev pub invariant-loop-place : goal.invariant-loop-place
invariant-loop-place g l = record {
  as_many : length l.sources ≡ length l.fn.sources;
  headed : map g.S.Source.heading l.sources ≡ map g.S.Source.heading l.fn.sources;
  no_more_faults : KeepFaults g.S.Source.faults l.fn.sources l.sources;
  sure : All g.S.Source.sure l.fn.sources → All g.S.Source.sure l.sources;
  same_writer : sink_name l.writer ≡ sink_name l.fn.writer;
  played : IsWinnerTree (keys_of g.S.Source.heading g.S.Source.current l.sources) l.tree;
  behind : AreBehind g.S.Source.heading g.S.Source.current (string_bytes l.entry.term) l.entry.end l.sources;
  merging : (before : Option (List ℕ)) (told : Told) → WasTold g.W.Write.contents before l.fn.writer told → entries_of told ≡ []
      → IsMerging g.S.Source.heading g.S.Source.current g.S.Source.yields g.S.Source.gives g.W.Write.contents l.fn.sources l.sources before told l.writer l.entry;
}

abbrev pub decreases-loop-place : goal.decreases-loop-place
decreases-loop-place g l = 15 * 2 ^ 28 - (l.writer.sections.postings + length l.entry.list.items)
