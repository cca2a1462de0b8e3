use Rattle.ix_run_text.specs.Heads.{row_of_doc}
use Rattle.ix_text.specs.Parts.{row_bytes}
use Rattle.ix_vbyte.specs.Code.{code_of}
use Rattle.ix_output.proofs.SinkLemmas.{appends_nothing}
use Rattle.ix_run.proofs.Writing.{appends_all, appends_one_more, front_within, writes_refused}
use Rattle.ix_run.proofs.write.put_rows.Goals as goal

pub loop-doc-init : goal.loop-doc-init
loop-doc-init g c = appends_nothing _

pub returns-in_err-put_row : goal.returns-in_err-put_row
returns-in_err-put_row g c =
    writes_refused _ _ _ _ c.from_residual.ensures.0
    (front_within (row_bytes code_of) row_of_doc c.args.docs.now _ _ _ c.loop-doc.doc-index c.doc-item.result c.loop-doc-test.true c.doc-item.is c.loop-doc.invariant c.in_err-put_row.ensures)

pub loop-doc-preserved : goal.loop-doc-preserved
loop-doc-preserved g c =
    appends_one_more (row_bytes code_of) row_of_doc c.args.docs.now _ _ _ c.loop-doc.doc-index c.doc-item.result c.loop-doc-test.true c.doc-item.is c.loop-doc.invariant c.in_ok-put_row.ensures

pub returns : goal.returns
returns g c = appends_all (row_bytes code_of) row_of_doc c.args.docs.now _ _ c.loop-doc.doc-index c.loop-doc-test.false c.loop-doc.invariant
