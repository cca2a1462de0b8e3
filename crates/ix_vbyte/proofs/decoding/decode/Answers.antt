use Rattle.ix_vbyte.specs.declared.errors.VbError.TheVariants.{Cut, LeadingZero, TooBig}
use Rattle.ix_vbyte.proofs.Fronts.{starts_from, found_code, found_fault, found_no_code, found_front, found_count, found_size}
use Rattle.ix_vbyte.proofs.decoding.decode.Goals as goal

pub returns-clause-found : goal.returns-clause-found
returns-clause-found c = found_code c.args.bytes.now c.read.result c.read.ensures

pub returns-clause-leading_zero : goal.returns-clause-leading_zero
returns-clause-leading_zero c = found_fault c.args.bytes.now c.read.result LeadingZero c.read.ensures

pub returns-clause-too_big : goal.returns-clause-too_big
returns-clause-too_big c = found_fault c.args.bytes.now c.read.result TooBig c.read.ensures

pub returns-clause-cut : goal.returns-clause-cut
returns-clause-cut c = found_fault c.args.bytes.now c.read.result Cut c.read.ensures

pub returns-clause-refused : goal.returns-clause-refused
returns-clause-refused c = found_no_code c.args.bytes.now c.read.result c.read.ensures

pub returns-clause-front : goal.returns-clause-front
returns-clause-front c = found_front c.args.bytes.now c.read.result c.read.ensures

pub returns-clause-count : goal.returns-clause-count
returns-clause-count c = found_count c.args.bytes.now c.read.result c.read.ensures

pub returns-clause-size : goal.returns-clause-size
returns-clause-size c = found_size c.args.bytes.now c.read.result c.read.ensures

pub returns-clause-written : goal.returns-clause-written
returns-clause-written c n rest fits e = (found_code c.args.bytes.now c.read.result c.read.ensures _ _).1 (starts_from c.args.bytes.now n rest fits e)
