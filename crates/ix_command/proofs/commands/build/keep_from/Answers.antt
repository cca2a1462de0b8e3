use Rattle.ix_command.proofs.commands.build.keep_from.Goals as goal

pub returns-in-Err-clause-refused : goal.returns-in-Err-clause-refused
returns-in-Err-clause-refused g c = record {
  any = c.in-Err.ensures.refused.0;
  of_memory = λ none. absurd (c.in-Err.ensures.refused.1 none);
}
