use Rattle.std.proofs.Common.{◌≡◌, ◌-◌}
use Rattle.std.specs.Prelude.{None}
use Rattle.std.specs.List.{count_by}
use Rattle.ix_board.specs.Laws.{is_try}
use Rattle.ix_board.specs.Desks.{place_held, LooksOnly}
use Rattle.ix_board.proofs.desk.Desk.claim.Given as goal

abbrev pub invariant-loop-place : goal.invariant-loop-place
invariant-loop-place g l = LooksOnly l.initial.self l.self × (place_held l.self ≡ None) × (l.self.board ≡ l.board)

abbrev pub decreases-loop-place : goal.decreases-loop-place
decreases-loop-place g l = l.board.count - count_by is_try l.self.steps
