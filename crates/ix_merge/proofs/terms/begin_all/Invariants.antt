use Rattle.std.proofs.Common.{All}
use Rattle.ix_merge.specs.Keys.{keys_of}
use Rattle.ix_merge.specs.Merging.{KeepFaults}
use Rattle.ix_merge.specs.WinnerTrees.{IsWinnerTree}
use Rattle.ix_merge.proofs.Starts.{HaveBegun}
use Rattle.ix_merge.proofs.terms.begin_all.Given as goal

abbrev pub invariant-loop-place : goal.invariant-loop-place
invariant-loop-place g l = record {
  begun : HaveBegun g.S.Source.heading g.S.Source.current g.S.Source.yields g.S.Source.gives l.fn.sources l.sources l.place;
  played : IsWinnerTree (keys_of g.S.Source.heading g.S.Source.current l.sources) l.tree;
  no_more_faults : KeepFaults g.S.Source.faults l.fn.sources l.sources;
  sure : All g.S.Source.sure l.fn.sources → All g.S.Source.sure l.sources;
}
