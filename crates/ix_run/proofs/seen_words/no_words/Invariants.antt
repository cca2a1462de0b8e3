use Rattle.ix_run.specs.SeenWords.{AreNoWords}
use Rattle.ix_run.proofs.seen_words.no_words.Given as goal

abbrev pub invariant-loop : goal.invariant-loop
invariant-loop l = AreNoWords l.words.items
