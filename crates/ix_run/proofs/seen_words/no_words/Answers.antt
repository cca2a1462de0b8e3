use Rattle.std.proofs.Common.{refl, subst, sym}
use Rattle.ix_run.specs.SeenWords.{AreNoWords}
use Rattle.ix_run.proofs.SeenLemmas.{no_words_more}
use Rattle.ix_run.proofs.seen_words.no_words.Goals as goal

pub loop-preserved : goal.loop-preserved
loop-preserved c = subst AreNoWords (sym c.in_ok-push.ensures.items) (no_words_more c.loop.words.items _ refl c.loop.invariant)
