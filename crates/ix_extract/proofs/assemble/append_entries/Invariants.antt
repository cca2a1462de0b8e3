use Rattle.std.proofs.Common.{◌≡◌, ◌++◌, take}
use Rattle.ix_extract.specs.Assembled.{found_dictionary}
use Rattle.ix_extract.proofs.assemble.append_entries.Given as goal

abbrev pub invariant-loop-one : goal.invariant-loop-one
invariant-loop-one l = l.out.items ≡ l.initial.out.items ++ found_dictionary (take l.one-index l.found)
