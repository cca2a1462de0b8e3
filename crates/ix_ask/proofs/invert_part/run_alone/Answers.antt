-- The run that was made is of the collection that was read.
use Rattle.ix_ask.proofs.invert_part.run_alone.Goals as goal

pub returns-in-Ok-text_of-clause-run : goal.returns-in-Ok-text_of-clause-run
returns-in-Ok-text_of-clause-run c = record {
  documents = c.in-Ok.documents;
  read = c.in-Ok.ensures.documents;
  spelled = c.in-Ok-text_of.ensures c.args.first _ (rw c.docs.ensures.documents at c.in-Ok-invert.ensures.run);
}
