use Rattle.std.proofs.Common.{◌≡◌, List, [], ◌∷◌, ◌++◌, append_assoc, ap, ◌∙◌}
use Rattle.std.proofs.lemmas.List.Elements.{All-pop}
use Rattle.std.specs.Prelude.{Some}
use Rattle.ix_board.specs.Crews.{crew}
use Rattle.ix_board.specs.Desks.{DeskView}
use Rattle.ix_board.proofs.Closings.{room_either}
use Rattle.ix_board.proofs.close.gather.Goals as goal

pub loop-desk-preserved : goal.loop-desk-preserved
loop-desk-preserved g c =
    let inv = c.loop-desk.invariant in
    let desk = c.in-Some-pop.desk in
    let rest = c.pop-in-loop-desk.new.self.items in
    let popped = c.in-Some-pop.ensures.items in
    let other = c.hand_back-other.ensures in
    let b = c.args.board.now in (
      desk ∷ inv.0,
      inv.1 ∙ (ap (λ (xs : List (DeskView _)). xs ++ inv.0) popped ∙ append_assoc rest (desk ∷ []) inv.0),
      (c.join_seats.ensures.0, c.join_seats.ensures.1 ∙ (λ i. (crew b.count b.workers ((other.seat.1 i).0.members ++ (inv.2.1 i).0.members), []))),
      room_either b.count desk inv.0 c.loop-desk.room c.hand_back-other.result.1 c.either_room-room.result other.room inv.3 c.either_room-room.ensures.some c.either_room-room.ensures.none,
      (All-pop (λ (d : DeskView _). d.board ≡ b) c.loop-desk.desks.items rest (Some desk) popped inv.4).0,
    )
