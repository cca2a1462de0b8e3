-- The digits are what is behind the word.
use Rattle.ix_script.proofs.LineLemmas.{removal, removes_none}
use Rattle.ix_script.proofs.read.read_removal.Goals as goal

pub returns-in_default : goal.returns-in_default
returns-in_default c = removes_none c.args.line.now c.in_default.ensures

pub returns : goal.returns
returns c = removal c.args.line.now c.in-Some.digits.now c.in_ok-number.number c.in-Some.ensures.1 c.in_ok-number.ensures
