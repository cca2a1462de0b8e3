use Rattle.std.proofs.Common.{sym, subst}
use Rattle.ix_vbyte.specs.Code.{IsCode}
use Rattle.ix_vbyte.proofs.Values.{code_of-code, IsCode-code_of}
use Rattle.ix_vbyte.proofs.laws.one_code.Goals as goal

pub returns : goal.returns
returns c n bytes fits = (code_of-code n bytes, λ e. subst (IsCode n) (sym e) (IsCode-code_of n fits))
