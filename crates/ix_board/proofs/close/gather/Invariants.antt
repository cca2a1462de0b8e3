use Rattle.std.proofs.Common.{◌≡◌, List, ◌++◌, map, All}
use Rattle.ix_board.specs.Desks.{DeskView}
use Rattle.ix_board.specs.Rooms.{RoomAmong}
use Rattle.ix_board.specs.Seats.{IsCrewSeat, settled_member}
use Rattle.ix_board.proofs.close.gather.Given as goal

abbrev pub invariant-loop-desk : goal.invariant-loop-desk
invariant-loop-desk g l =
    (back : List (DeskView g.row.P.Denot)) × (l.fn.desks.items ≡ l.desks.items ++ back) × IsCrewSeat l.board (map settled_member back) l.seat × RoomAmong l.board.count back l.room
    × All (λ d. d.board ≡ l.board) l.desks.items

abbrev pub decreases-loop-desk : goal.decreases-loop-desk
decreases-loop-desk g l = goal.left-loop-desk g l
