use Rattle.std.proofs.Common.{◌≡◌, List, [], ◌∷◌, ◌++◌, map, length, sym, ap, ◌∙◌, append_assoc, arith}
use Rattle.std.specs.Prelude.{Option, Some, IsSome}
use Rattle.std.specs.Vec.Iter.{into_iter_items}
use Rattle.std.proofs.lemmas.List.{map_push}
use Rattle.std.proofs.lemmas.List.Elements.{All-rest}
use Rattle.ix_pool.proofs.pool.unwrap_all.Goals as goal

pub loop-piece-preserved : goal.loop-piece-preserved
loop-piece-preserved g c =
    let inv = c.loop-piece.invariant in
    let P = g.row.P.Denot in
    let step = c.in-Some.ensures.steps in
    let rest = into_iter_items c.next.new.self in
    let old = c.loop-piece.pieces.items in
    let whole : into_iter_items c.loop-piece.piece-iterator ≡ Some c.in-Some-piece.piece ∷ rest = step.0 ∙ ap (λ (o : Option P). o ∷ rest) c.in-Some-piece.is in
    let counted : length (into_iter_items c.loop-piece.piece-iterator) ≡ length (Some c.in-Some-piece.piece ∷ rest) = ap length whole in (
      inv.0 ∙ (ap (λ (l : List (Option P)). map (λ (x : P). Some x) old ++ l) whole ∙ (sym (append_assoc (map (λ (x : P). Some x) old) (Some c.in-Some-piece.piece ∷ []) rest)
          ∙ (ap (λ (l : List (Option P)). l ++ rest) (sym (map_push (λ (x : P). Some x) old c.in-Some-piece.piece)) ∙ ap (λ (l : List P). map (λ (x : P). Some x) l ++ rest) (sym c.push_reserved.ensures.items)))),
      All-rest IsSome (Some c.in-Some-piece.piece) rest (into_iter_items c.loop-piece.piece-iterator) whole inv.1,
      omega (arith, inv.2, c.push_reserved.ensures.len, c.push_reserved.ensures.capacity),
    )
