use Rattle.std.proofs.Common.{sym, subst}
use Rattle.ix_postings.proofs.TokenStarts.{room_for}
use Rattle.ix_postings.specs.TokenTables.{HasRoomFor}
use Rattle.ix_run_text.specs.Heads.{row_of_doc}
use Rattle.ix_run_text.specs.declared.head.RunDoc.{RunDoc}
use Rattle.ix_run_text.proofs.token_counts.table_of.Goals as goal

pub push-requires : goal.push-requires
push-requires c =
    subst (λ (doc : RunDoc). HasRoomFor c.loop-doc.table doc.tokens) (sym c.doc-item.is)
    (room_for row_of_doc c.loop-doc.table c.args.docs.now c.loop-doc.doc-index c.doc-item.result c.loop-doc.invariant c.loop-doc-test.true c.requires)
