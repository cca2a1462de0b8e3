use Rattle.std.proofs.Common.{List, [], ◌∷◌, ◌++◌, sym, subst, arith}
use Rattle.ix_board.specs.Desks.{DeskView}
use Rattle.ix_pool.specs.Shifts.{HaveWorked}
use Rattle.ix_pool.proofs.ShiftLemmas.{one_more}
use Rattle.ix_pool.proofs.ThreadLemmas.{one_joined}
use Rattle.ix_pool.proofs.threads.join_all.Goals as goal

pub loop-handle-preserved : goal.loop-handle-preserved
loop-handle-preserved g c =
    let inv = c.loop-handle.invariant in
    let popped = c.in-Some.ensures.items in
    let maker = c.in-Some.handle.promise.maker.value in
    let desk = c.in-Some.handle.promise.desk.value in
    let back = c.join-maker.result in
    let A = g.M.Maker.askings in
    let G = g.M.Maker.gives in
    let F = g.M.Maker.follows in
    let all = c.with-all.result in
    let Done : List g.row.M.Denot → List (DeskView g.row.M-Piece.Denot) → Type 0 = λ ns es. HaveWorked A G F (inv.0 ++ maker ∷ []) (inv.1 ++ desk ∷ []) ns es all.lowest all.stopped in
    let more =
    one_more A G F inv.0 inv.1 c.loop-handle.makers.items c.loop-handle.desks.items c.loop-handle.all.lowest c.loop-handle.all.stopped maker desk back.0 back.1 back.2.lowest back.2.stopped all.lowest all.stopped inv.4
    c.join-maker.ensures c.with-all.ensures.lowest c.with-all.ensures.stopped in
    let with_makers = subst (λ ns. Done ns (c.loop-handle.desks.items ++ back.1 ∷ [])) (sym c.push_reserved.ensures.items) more in (
      inv.0 ++ maker ∷ [],
      inv.1 ++ desk ∷ [],
      one_joined _ _ _ _ _ _ inv.2 popped,
      one_joined _ _ _ _ _ _ inv.3 popped,
      subst (λ es. Done c.push_reserved.new.self.items es) (sym c.push_reserved-in-Some.ensures.items) with_makers,
      omega (arith, inv.5, c.in-Some.ensures.cases, c.push_reserved.ensures.len, c.push_reserved.ensures.capacity),
      omega (arith, inv.6, c.in-Some.ensures.cases, c.push_reserved-in-Some.ensures.len, c.push_reserved-in-Some.ensures.capacity),
    )
