use Rattle.ix_index_text.proofs.SectionLemmas.{AreAppended}
use Rattle.ix_index_text.proofs.writer.grams.append_lists.Given as goal

abbrev pub invariant-loop-gram : goal.invariant-loop-gram
invariant-loop-gram l = AreAppended l.fn.out.items l.lists.entries l.gram-iterator l.out.items
