use Rattle.std.proofs.Common.{◌≡◌, List, length, sym, ap, subst, arith}
use Rattle.std.specs.Prelude.{Option, Vec}
use Rattle.ix_board.specs.declared.rule.Member.{Member}
use Rattle.ix_board.specs.Desks.{ClosesWith}
use Rattle.ix_board.specs.Ends.{EndsWith}
use Rattle.ix_board.specs.Rooms.{RoomAmong}
use Rattle.ix_board.specs.Seats.{AreIdle}
use Rattle.std.specs.Slots.{slots_items}
use Rattle.ix_board.proofs.Closings.{settled_are_idle, no_room_missing, closes}
use Rattle.ix_board.proofs.board.Board.close.Goals as goal

pub into_closed-closed-requires-clause-idle : goal.into_closed-closed-requires-clause-idle
into_closed-closed-requires-clause-idle g c =
    let I : List (Member g.row.P.Denot) → Type 0 = λ ms. AreIdle c.args.self ms in
    subst I (λ i. (sym c.gather-seat.ensures.seat.1 i).0.members) (settled_are_idle c.args.self c.args.desks.items c.requires.own)

pub unreachable-requires : goal.unreachable-requires
unreachable-requires g c =
    let E : List (Member g.row.P.Denot) → Type 0 = λ ms. EndsWith c.args.self.count c.args.self.workers ms (slots_items c.into_closed-closed.result.slots) in
    let ended = subst E (λ i. (c.gather-seat.ensures.seat.1 i).0.members) c.into_closed-closed.ensures.ends in
    let len : length c.args.desks.items ≡ c.args.self.workers = omega (arith, c.args.desks.ok.0, c.requires.all) in
    let R : Option (Vec (Option g.row.P.Denot) _) → Type 0 = λ o. RoomAmong c.args.self.count c.args.desks.items o in
    no_room_missing c.args.self c.args.desks.items _ ended len c.into_closed-closed.ensures.workers (subst R c.in_default.is c.gather-seat.ensures.room)

pub returns-clause-closed : goal.returns-clause-closed
returns-clause-closed g c =
    let E : List (Member g.row.P.Denot) → Type 0 = λ ms. EndsWith c.args.self.count c.args.self.workers ms (slots_items c.into_closed-closed.result.slots) in
    let ended = subst E (λ i. (c.gather-seat.ensures.seat.1 i).0.members) c.into_closed-closed.ensures.ends in
    let len : length c.args.desks.items ≡ c.args.self.workers = omega (arith, c.args.desks.ok.0, c.requires.all) in
    subst (ClosesWith c.args.self c.args.desks.items) (sym c.take_pieces.ensures) (closes c.args.self c.args.desks.items _ ended len)

pub returns-clause-as_many : goal.returns-clause-as_many
returns-clause-as_many g c =
    let items : length c.take_pieces.result.items ≡ length (slots_items c.into_closed-closed.result.slots) = ap length c.take_pieces.ensures in
    omega (arith, c.take_pieces.result.ok.0, c.into_closed-closed.ensures.slots.0)
