use Rattle.ix_text.proofs.WindowLemmas.{trigrams_by_place}
use Rattle.ix_text.proofs.windows.trigrams_stand_by_place.Goals as goal

pub returns : goal.returns
returns c = trigrams_by_place
