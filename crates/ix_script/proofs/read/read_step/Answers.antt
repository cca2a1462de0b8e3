-- A line that is none of those tried is none at all.
use Rattle.std.proofs.Common.{inr, refl, rules}
use Rattle.ix_script.proofs.LineLemmas.{some_byte}
use Rattle.ix_script.proofs.read.read_step.Goals as goal

pub returns-in-None-clause-fault : goal.returns-in-None-clause-fault
returns-in-None-clause-fault c =
    inr (
      refl,
      record {
        filled = some_byte c.args.line.now c.requires;
        no_publish = search rules;
        no_add = c.in_default.ensures;
        no_ask = c.in_default-rest_behind.ensures;
        no_remove = rw c.in-None.is at c.in_ok-removed.ensures;
      },
    )
