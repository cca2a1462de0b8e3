use Rattle.ix_file.proofs.OpenedLemmas.{entry_at}
use Rattle.ix_file.proofs.OpenedSays.{entries_have_postings, others_have_no_posting}
use Rattle.ix_file.proofs.laws.opened_postings_are_of_the_collection.Goals as goal

pub returns : goal.returns
returns c = record { there = entries_have_postings; nowhere = others_have_no_posting; numbered = entry_at }
