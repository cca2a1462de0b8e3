use Rattle.ix_live.proofs.NameLemmas.{name_at_place}
use Rattle.ix_live.proofs.find_names.find_name.Goals as goal

pub returns-in-Ok : goal.returns-in-Ok
returns-in-Ok c =
    name_at_place c.args.segments.now c.loop-slot.slot-index c.slot-item.result c.args.number c.loop-slot.left c.in-Ok.name.now c.loop-slot-test.true c.slot-item.is c.loop-slot.invariant c.in-Ok.ensures
