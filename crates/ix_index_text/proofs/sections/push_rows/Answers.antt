use Rattle.std.proofs.Common.{◌++◌, sym, ap, ◌∙◌, append-nil}
use Rattle.ix_index_text.specs.Rows.{document_row}
use Rattle.ix_index_text.proofs.Beginnings.{documents_section-none, documents_section-more, row_appended}
use Rattle.ix_index_text.proofs.sections.push_rows.Goals as goal

pub loop-row-init : goal.loop-row-init
loop-row-init c = sym (ap (λ bytes. c.args.out.now.items ++ bytes) documents_section-none ∙ append-nil c.args.out.now.items)

pub loop-row-preserved : goal.loop-row-preserved
loop-row-preserved c =
    row_appended _ _ _ _ _ _ _ _ _ c.in_ok-push_counted.ensures.ok c.in_ok-push_code.ensures.ok c.loop-row.invariant c.as_bytes.ensures.value
    (documents_section-more document_row c.args.rows.now c.loop-row.row-index _ c.loop-row-test.true)
