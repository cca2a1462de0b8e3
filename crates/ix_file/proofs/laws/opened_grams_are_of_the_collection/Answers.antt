use Rattle.ix_file.proofs.OpenedSays.{grams_have_numbers, others_are_no_gram}
use Rattle.ix_file.proofs.laws.opened_grams_are_of_the_collection.Goals as goal

pub returns : goal.returns
returns c = record { there = grams_have_numbers; nowhere = others_are_no_gram }
