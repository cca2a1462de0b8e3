use Rattle.std.proofs.Common.{◌≡◌, ◌+◌, ◌≤◌, ◌++◌, map, reverse, vec_len, All}
use Rattle.std.specs.Vec.{vec_capacity}
use Rattle.ix_pool.proofs.threads.start_all.Given as goal

abbrev pub invariant-loop-maker : goal.invariant-loop-maker
invariant-loop-maker g l =
    (l.initial.makers.items ≡ l.makers.items ++ reverse (map (λ h. h.promise.maker.value) l.handles.items))
    × (l.initial.desks.items ≡ l.desks.items ++ reverse (map (λ h. h.promise.desk.value) l.handles.items))
    × All (λ d. d.board ≡ l.board) l.desks.items × (vec_len l.desks ≡ vec_len l.makers) × (vec_len l.makers + vec_len l.handles ≡ vec_len l.initial.makers)
    × (vec_len l.initial.makers ≤ vec_capacity l.handles) × (vec_capacity l.makers ≡ vec_capacity l.initial.makers) × (vec_capacity l.desks ≡ vec_capacity l.initial.desks)

abbrev pub decreases-loop-maker : goal.decreases-loop-maker
decreases-loop-maker g l = vec_len l.makers
