-- The text that was written is that of the collection.
use Rattle.std.proofs.Common.{OnOk, inl}
use Rattle.std.proofs.lemmas.Result.{on_ok_weaker}
use Rattle.ix_file.specs.Endings.{WritesIndexText}
use Rattle.ix_command.proofs.Saving.{if_unwritten, if_written, index_left, index_saved, kept_at, on_err, on_unwritten, on_written, others_left, others_through, refused_by, saved_by, target_left, undone_through}
use Rattle.ix_command.proofs.commands.upgrade.save.Goals.{in-Ok, in-Err}
use Rattle.ix_command.proofs.commands.upgrade.save.Goals as goal

pub returns-in_err-output-clause-others : goal.returns-in_err-output-clause-others
returns-in_err-output-clause-others g c = others_left _ _ _ c.begin.ensures.changes

pub returns-in_err-output-clause-undone : goal.returns-in_err-output-clause-undone
returns-in_err-output-clause-undone g c = λ version collection is. on_err c.from_residual.result (λ honest. inl (target_left _ _ _ c.begin.ensures.changes honest))

pub returns-clause-saved : goal.returns-clause-saved
returns-clause-saved g c = λ version collection is.
    let wrote : OnOk c.match-put_index.written (WritesIndexText (g.F.Writer.Write.contents c.in_ok-output.output.writer) (g.F.Writer.Write.contents c.put_index.new.out) collection) =
    elim c.match-put_index.branch [ in-Ok w ↦ on_written c.match-put_index.written (w.in-Ok.ensures version collection (rw c.index-index.ensures is)) | in-Err w ↦ on_unwritten _ c.match-put_index.written _ w.written-is ] in
    saved_by _ _ _ c.end.result c.match-put_index.written c.end.ensures.written wrote c.end.ensures.saved
    (λ writes saved. index_saved _ _ _ _ _ (kept_at _ _ _ c.begin.ensures.changes) c.begin.ensures.goes_on c.in_ok-output.ensures.begun c.end.ensures.goes_on _ _ c.in_ok-output.ensures.empty _ _ writes saved)

pub returns-clause-refused : goal.returns-clause-refused
returns-clause-refused g c =
    refused_by _ c.args.path.now c.end.result c.match-put_index.written c.end.ensures.refused (λ told is. is)
    (elim c.match-put_index.branch [ in-Ok w ↦ if_written _ c.match-put_index.written _ w.written-is | in-Err w ↦ if_unwritten _ c.match-put_index.written _ w.written-is w.unsaved.ensures.unsaved ])

pub returns-clause-others : goal.returns-clause-others
returns-clause-others g c = others_through _ _ _ _ _ c.begin.ensures.changes c.begin.ensures.goes_on c.in_ok-output.ensures.begun c.end.ensures.goes_on c.end.ensures.others

pub returns-clause-undone : goal.returns-clause-undone
returns-clause-undone g c = λ version collection is.
    let wrote : OnOk c.match-put_index.written (WritesIndexText (g.F.Writer.Write.contents c.in_ok-output.output.writer) (g.F.Writer.Write.contents c.put_index.new.out) collection) =
    elim c.match-put_index.branch [ in-Ok w ↦ on_written c.match-put_index.written (w.in-Ok.ensures version collection (rw c.index-index.ensures is)) | in-Err w ↦ on_unwritten _ c.match-put_index.written _ w.written-is ] in
    undone_through _ _ _ _ _ (kept_at _ _ _ c.begin.ensures.changes) c.begin.ensures.goes_on c.in_ok-output.ensures.begun c.end.ensures.goes_on _ _ c.in_ok-output.ensures.empty _ c.end.result c.match-put_index.written
    (on_ok_weaker c.match-put_index.written (λ writes honest. index_left _ _ _ _ _ (kept_at _ _ _ c.begin.ensures.changes) c.begin.ensures.goes_on c.in_ok-output.ensures.begun c.end.ensures.goes_on _ _ c.in_ok-output.ensures.empty _ writes honest) wrote) c.end.ensures.undone
