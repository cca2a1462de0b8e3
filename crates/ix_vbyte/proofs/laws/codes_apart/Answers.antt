use Rattle.ix_vbyte.proofs.Values.{codes_apart, code_of-apart}
use Rattle.ix_vbyte.proofs.laws.codes_apart.Goals as goal

pub returns-clause-relation : goal.returns-clause-relation
returns-clause-relation c = codes_apart

pub returns-clause-function : goal.returns-clause-function
returns-clause-function c = code_of-apart
