use Rattle.std.proofs.Common.{◌≡◌, ◌+◌, ◌≤◌, List, ◌++◌, map, reverse, vec_len}
use Rattle.std.specs.Vec.{vec_capacity}
use Rattle.ix_board.specs.Desks.{DeskView}
use Rattle.ix_pool.specs.Shifts.{HaveWorked}
use Rattle.ix_pool.proofs.threads.join_all.Given as goal

abbrev pub invariant-loop-handle : goal.invariant-loop-handle
invariant-loop-handle g l =
    (done : List g.row.M.Denot) × (desks : List (DeskView g.row.M-Piece.Denot))
    × (reverse (map (λ h. h.promise.maker.value) l.initial.handles.items) ≡ done ++ reverse (map (λ h. h.promise.maker.value) l.handles.items))
    × (reverse (map (λ h. h.promise.desk.value) l.initial.handles.items) ≡ desks ++ reverse (map (λ h. h.promise.desk.value) l.handles.items))
    × HaveWorked g.M.Maker.askings g.M.Maker.gives g.M.Maker.follows done desks l.makers.items l.desks.items l.all.lowest l.all.stopped
    × (vec_len l.makers + vec_len l.handles ≤ vec_capacity l.makers) × (vec_len l.desks + vec_len l.handles ≤ vec_capacity l.desks)

abbrev pub decreases-loop-handle : goal.decreases-loop-handle
decreases-loop-handle g l = vec_len l.handles
