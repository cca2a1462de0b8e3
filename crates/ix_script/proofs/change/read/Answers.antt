-- What was read is the whole file, or there was room for no more of it.
use Rattle.std.proofs.Common.{◌^◌, refl, arith}
use Rattle.ix_files.specs.Reading.{held_in}
use Rattle.ix_files.proofs.Fronts.{front_is_whole, front_of_longer}
use Rattle.ix_script.proofs.change.read.Goals as goal

pub returns-then-len-eq-ROOM-clause-refused : goal.returns-then-len-eq-ROOM-clause-refused
returns-then-len-eq-ROOM-clause-refused g c =
    let long = front_of_longer (held_in (g.F.Files.view c.args.files.now) c.args.path.now) _ (2 ^ 28) _ c.in-Ok.ensures.front (omega (arith, c.len.ensures, c.if-len-eq-ROOM.true)) in
    (refl, long.0, long.1, long.2)

pub returns-else-len-eq-ROOM-clause-held : goal.returns-else-len-eq-ROOM-clause-held
returns-else-len-eq-ROOM-clause-held g c =
    front_is_whole (held_in (g.F.Files.view c.args.files.now) c.args.path.now) _ _ c.in-Ok.ensures.front (λ full. c.if-len-eq-ROOM.false (omega (arith, c.len.ensures, full)))
