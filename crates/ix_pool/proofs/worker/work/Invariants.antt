use Rattle.std.proofs.Common.{◌≡◌}
use Rattle.ix_pool.specs.Working.{Stint}
use Rattle.ix_pool.proofs.worker.work.Given as goal

abbrev pub invariant-loop : goal.invariant-loop
invariant-loop g l =
    (goal.iterator-loop g).can_next l.iterator' × (goal.iterator-loop g).is_finite l.iterator' × (l.desk.board ≡ l.board)
    × Stint g.M.Maker.askings g.M.Maker.gives g.M.Maker.follows l.initial.maker l.initial.desk l.maker l.desk l.lowest
