use Rattle.std.proofs.Common.{List, [], ◌∷◌, ◌++◌, length, All, subst, ap, sym, ◌∙◌, arith, ◌≡◌}
use Rattle.ix_board.specs.Desks.{DeskView}
use Rattle.ix_board.proofs.FreshDesks.{length-fresh_desks, fresh_desks_more, fresh_desks_own}
use Rattle.ix_board.proofs.open.seat_all.Goals as goal

pub push_reserved-requires-in-loop-number : goal.push_reserved-requires-in-loop-number
push_reserved-requires-in-loop-number g c =
    let inv = c.loop-number.invariant in
    omega (arith, c.loop-number.desks.ok.0, ap (λ (l : List (DeskView _)). length l) inv.1, length-fresh_desks g.row.P.Denot c.args.board.now c.loop-number.number, inv.2, c.loop-number-test.true)

pub loop-number-preserved : goal.loop-number-preserved
loop-number-preserved g c =
    let inv = c.loop-number.invariant in
    let pushed = c.push_reserved-in-loop-number.ensures in (
      c.deal-seat-in-loop-number.ensures.dealer,
      pushed.items
          ∙ (λ i. inv.1 i ++ c.new-in-loop-number-2.ensures i ∷ [])
          ∙ sym (fresh_desks_more c.args.board.now c.loop-number.number),
      omega (arith, inv.2, pushed.capacity),
    )

pub returns-clause-as_many : goal.returns-clause-as_many
returns-clause-as_many g c =
    omega (arith, c.loop-number.desks.ok.0, ap (λ (l : List (DeskView _)). length l) c.loop-number.invariant.1, length-fresh_desks g.row.P.Denot c.args.board.now c.loop-number.number, c.loop-number-test.false)

pub returns-clause-own : goal.returns-clause-own
returns-clause-own g c = subst (All (λ (d : DeskView _). d.board ≡ c.args.board.now)) (sym c.loop-number.invariant.1) (fresh_desks_own _ c.args.board.now c.loop-number.number)
