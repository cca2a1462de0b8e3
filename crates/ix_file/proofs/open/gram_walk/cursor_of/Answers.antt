use Rattle.std.proofs.Common.{refl}
use Rattle.ix_file.proofs.GramWalking.{none_read}
use Rattle.ix_file.proofs.open.gram_walk.cursor_of.Goals as goal

pub returns-clause-some : goal.returns-clause-some
returns-clause-some c side terms on = none_read side terms c.args.section.now c.args.row _ on c.in_ok-key.ensures.some c.if-row-eq0.false refl refl refl
