use Rattle.std.proofs.Common.{subst, sym}
use Rattle.ix_index_text.specs.Rows.{document_row}
use Rattle.ix_index_text.specs.Told.{told_first}
use Rattle.ix_index_text.specs.Telling.{IsTold}
use Rattle.ix_index_text.specs.declared.sections.WriterSections.{WriterSections}
use Rattle.ix_index_text.proofs.Beginnings.{told_at_first, ok_of_no_error, not_refused}
use Rattle.ix_index_text.proofs.writer.IndexWriter+W.begin.Goals as goal
use Rattle.ix_index_text.proofs.writer.IndexWriter+W.begin.Goals.{then-is_err, else-is_err}
use Rattle.std.proofs.Common.{map, ◌∙◌}

pub returns-clause-told : goal.returns-clause-told
returns-clause-told g c ready =
    elim c.if-is_err.branch [
      | then-is_err w ↦ not_refused c.begin.new.self _ _ w.sections-is ready
      | else-is_err w ↦
          let P : WriterSections → Type 0 = λ sections. IsTold (g.W.Write.contents c.args.out.now) (g.W.Write.contents c.args.out.now) sections (told_first c.args.stop.now (map document_row c.args.rows.now)) in
          subst P (sym w.sections-is) (told_at_first _ _ c.args.stop.now (map document_row c.args.rows.now) (ok_of_no_error _ (sym c.is_err.ensures.value ∙ w.if-is_err.false) (c.begin.ensures c.empty-sections.ensures)))
    ]
