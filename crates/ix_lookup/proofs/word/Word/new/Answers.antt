use Rattle.std.proofs.Common.{refl}
use Rattle.ix_lookup.proofs.FrontLemmas.{below_none}
use Rattle.ix_lookup.proofs.word.Word.new.Goals as goal

pub returns-clause-begun : goal.returns-clause-begun
returns-clause-begun c = record { common = refl; below = below_none c.args.text.now }
