use Rattle.std.proofs.Common.{◌≡◌, ◌+◌, ◌≤◌, ◌++◌, map, length, vec_len, All}
use Rattle.std.specs.Prelude.{Some, IsSome}
use Rattle.std.specs.Vec.{vec_capacity}
use Rattle.std.specs.Vec.Iter.{into_iter_items}
use Rattle.ix_pool.proofs.pool.unwrap_all.Given as goal

abbrev pub invariant-loop-piece : goal.invariant-loop-piece
invariant-loop-piece g l =
    (l.fn.found.items ≡ map Some l.pieces.items ++ into_iter_items l.piece-iterator)
    × All IsSome (into_iter_items l.piece-iterator)
    × (vec_len l.pieces + length (into_iter_items l.piece-iterator) ≤ vec_capacity l.pieces)
