use Rattle.std.proofs.Common.{[], sym, ap, ◌∙◌, arith}
use Rattle.ix_board.specs.Desks.{BoardView}
use Rattle.ix_board.proofs.BoardCalls.{deals_at, dealt_left, dealt_right, fetches_at}
use Rattle.ix_board.proofs.board.Board.deal.Goals as goal

pub split_seat-seat-requires : goal.split_seat-seat-requires
split_seat-seat-requires g c =
    let dealer = c.requires.dealer in (
      dealer.0 ∙ sym (ap (λ (b : BoardView). b.table) c.self.view_is),
      omega (arith, c.self.invariant.0),
      deals_at _ _ c.self.view_is _ _ _ (λ i. (dealer.1 i).0) c.requires.number,
    )

pub load-requires : goal.load-requires
load-requires g c =
    let dealer = c.requires.dealer in
    let split = c.split_seat-seat.ensures in
    let count = ap (λ (b : BoardView). b.count) c.self.view_is in
    let right = dealt_right _ _ c.self.view_is _ _ (λ i. (dealer.1 i).0) c.requires.number in (
      split.3 ∙ (dealer.0 ∙ sym (ap (λ (b : BoardView). b.table) c.self.view_is)),
      omega (arith, c.self.invariant.0, c.self.invariant.1, c.slot_count.ensures, c.if-number-slot_count.true),
      fetches_at _ _ c.self.view_is _ _ _ _ (split.4 ∙ (λ i. (right i, []))) (omega (arith, count, c.self.invariant.1, c.slot_count.ensures, c.if-number-slot_count.true)),
    )

pub returns-then-number-slot_count-clause-dealer : goal.returns-then-number-slot_count-clause-dealer
returns-then-number-slot_count-clause-dealer g c =
    let dealer = c.requires.dealer in
    let split = c.split_seat-seat.ensures in
    let left = dealt_left _ _ c.self.view_is _ _ (λ i. (dealer.1 i).0) c.requires.number in
    (split.0 ∙ dealer.0, split.2 ∙ (λ i. (left i, (dealer.1 i).1)))

pub returns-else-number-slot_count-clause-dealer : goal.returns-else-number-slot_count-clause-dealer
returns-else-number-slot_count-clause-dealer g c =
    let dealer = c.requires.dealer in
    let split = c.split_seat-seat.ensures in
    let left = dealt_left _ _ c.self.view_is _ _ (λ i. (dealer.1 i).0) c.requires.number in
    (split.0 ∙ dealer.0, split.2 ∙ (λ i. (left i, (dealer.1 i).1)))
