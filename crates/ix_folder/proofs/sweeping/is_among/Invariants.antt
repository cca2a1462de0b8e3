use Rattle.std.proofs.Common.{string_bytes}
use Rattle.ix_folder.proofs.Lists.{IsNoneBelow}
use Rattle.ix_folder.proofs.sweeping.is_among.Given as goal

abbrev pub invariant-loop-kept : goal.invariant-loop-kept
invariant-loop-kept l = IsNoneBelow string_bytes l.names l.name l.kept-index
