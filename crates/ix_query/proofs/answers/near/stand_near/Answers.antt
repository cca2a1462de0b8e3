use Rattle.std.proofs.Common.{sym}
use Rattle.ix_query.proofs.ClosePositions.{near_told}
use Rattle.ix_query.proofs.answers.near.stand_near.Goals as goal

pub returns : goal.returns
returns c = near_told c.args.first.now c.args.second.now c.args.distance c.are_close.result c.positions.ensures.lawful c.positions-2.ensures.lawful c.in-Some.one c.in-Some-positions.other (sym c.in-Some.ensures.value) (sym c.in-Some-positions.ensures.value) c.are_close.ensures
