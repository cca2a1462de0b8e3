use Rattle.ix_command.proofs.BuildLemmas.{inverting_refused}
use Rattle.ix_command.proofs.commands.build.invert.Goals as goal

pub returns-in-Err-clause-refused : goal.returns-in-Err-clause-refused
returns-in-Err-clause-refused g c = λ path. inverting_refused c.args.plan.now c.args.documents.now c.in-Err.error c.in-Err.ensures.refused
