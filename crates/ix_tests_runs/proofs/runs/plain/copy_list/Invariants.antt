-- A term is at hand.
use Rattle.std.proofs.Common.{IsSome}
use Rattle.ix_tests_runs.proofs.runs.plain.copy_list.Given as goal

abbrev pub invariant-loop : goal.invariant-loop
invariant-loop g l = IsSome (g.S.Source.current l.source)
