-- The lists that were noted are those of the terms, put in order.
use Rattle.std.proofs.Common.{sym, ◌∙◌}
use Rattle.ix_index_text.proofs.SectionLemmas.{section_held}
use Rattle.ix_index_text.proofs.TermTexts.{nothing_granted}
use Rattle.ix_index_text.proofs.writer.grams.Grams.write.Goals as goal
use Rattle.ix_index_text.proofs.writer.grams.Grams.write.Goals.{then-is_err, else-is_err}

pub returns-clause-ok : goal.returns-clause-ok
returns-clause-ok c = λ terms held.
    elim c.if-is_err.branch [
      | then-is_err w ↦ nothing_granted _ c.append_lists-written.result (sym c.is_err.ensures.value ∙ w.if-is_err.true)
      | else-is_err w ↦
          rw w.out-is
          (section_held c.in_ok-lists.lists c.sort_unstable_keys.new.self terms (c.in_ok-lists.ensures terms (rw (c.deref.ensures, c.deref-2.ensures.value) held.are)) c.in_ok-sort_unstable_keys.ensures.sorted c.in_ok-sort_unstable_keys.ensures.unique c.in_ok-sort_unstable_keys.ensures.reordered
          c.append_lists-written.result c.args.out.now.items c.append_lists-written.new.out.items c.append_lists-written.ensures.ok)
    ]
