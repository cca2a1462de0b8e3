-- One source is its own concatenation.
use Rattle.std.proofs.Common.{ap}
use Rattle.ix_run.specs.RunSources.{HasLeft, SourceValue}
use Rattle.ix_command.proofs.Upgrading.{written_of_one}
use Rattle.ix_command.proofs.commands.upgrade.put_index.Goals as goal

pub returns-in-Ok-merge : goal.returns-in-Ok-merge
returns-in-Ok-merge g c = λ version collection is.
    let source = c.in_ok-source.source in
    let writes = rw c.in-Ok.ensures.items at c.in-Ok-merge.ensures.written in
    written_of_one HasLeft (λ (s : SourceValue). s.heading) source collection _ _ (ap (λ (s : SourceValue). s.heading.first) c.in_ok-source.ensures.value)
    (c.in_ok-source.ensures.yields collection is.parts) writes
