use Rattle.std.proofs.Common.{Ok, Err}
use Rattle.ix_live.proofs.Among.{found_among}
use Rattle.ix_live.proofs.find_documents.is_among.Goals as goal

pub returns-in-Ok : goal.returns-in-Ok
returns-in-Ok c = found_among c.args.numbers.now c.args.number (Ok c.in-Ok.field-0) (c.in-Ok.ensures.position) c.requires

pub returns-in-Err : goal.returns-in-Err
returns-in-Err c = found_among c.args.numbers.now c.args.number (Err c.in-Err.field-0) (c.in-Err.ensures.position) c.requires
