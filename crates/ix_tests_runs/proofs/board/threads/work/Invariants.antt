use Rattle.std.proofs.Common.{◌≡◌}
use Rattle.ix_tests_runs.proofs.board.threads.work.Given as goal

abbrev pub invariant-loop : goal.invariant-loop
invariant-loop l = l.desk.board ≡ l.board
