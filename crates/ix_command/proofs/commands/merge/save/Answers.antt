-- The text that was written is that of the concatenation.
use Rattle.std.proofs.Common.{OnOk, inl}
use Rattle.std.proofs.lemmas.Result.{on_ok_weaker}
use Rattle.ix_merge.specs.AnySources.{SourceMayYield, heading_of_source}
use Rattle.ix_merge.specs.Pieces.{WritesConcatenation}
use Rattle.ix_command.proofs.FileLemmas.{handed_up}
use Rattle.ix_command.proofs.MergedFileLemmas.{refuses_unsaved}
use Rattle.ix_command.proofs.Saving.{if_unwritten, if_written, index_left, index_saved, kept_at, on_err, on_unwritten, on_written, others_left, others_through, refused_by, saved_by, target_left, undone_through}
use Rattle.ix_command.proofs.commands.merge.save.Goals.{in-Ok, in-Err}
use Rattle.ix_command.proofs.commands.merge.save.Goals as goal

pub returns-in_err-output-clause-refused : goal.returns-in_err-output-clause-refused
returns-in_err-output-clause-refused g c = handed_up _ c.from_residual.result c.in_err-output.field-0.0 c.from_residual.ensures.1 (refuses_unsaved _ _ _ c.in_err-output.ensures.refused)

pub returns-in_err-output-clause-others : goal.returns-in_err-output-clause-others
returns-in_err-output-clause-others g c = others_left _ _ _ c.begin.ensures.changes

pub returns-in_err-output-clause-undone : goal.returns-in_err-output-clause-undone
returns-in_err-output-clause-undone g c = on_err c.from_residual.result (λ honest. inl (target_left _ _ _ c.begin.ensures.changes honest))

pub returns-clause-saved : goal.returns-clause-saved
returns-clause-saved g c =
    let wrote : OnOk c.match-merge.written (WritesConcatenation (SourceMayYield g.R.Read.remaining) heading_of_source c.args.sources.items (g.F.Writer.Write.contents c.in_ok-output.output.writer) (g.F.Writer.Write.contents c.merge.new.out)) =
    elim c.match-merge.branch [ in-Ok w ↦ on_written c.match-merge.written w.in-Ok.ensures.written | in-Err w ↦ on_unwritten _ c.match-merge.written _ w.written-is ] in
    saved_by _ _ _ c.end.result c.match-merge.written c.end.ensures.written wrote c.end.ensures.saved (λ writes saved. record {
      pieces = writes.pieces;
      yielded = writes.yielded;
      whole = writes.whole;
      concatenation = writes.concatenation;
      saved = index_saved _ _ _ _ _ (kept_at _ _ _ c.begin.ensures.changes) c.begin.ensures.goes_on c.in_ok-output.ensures.begun c.end.ensures.goes_on _ _ c.in_ok-output.ensures.empty _ writes.whole writes.written saved;
    })

pub returns-clause-refused : goal.returns-clause-refused
returns-clause-refused g c =
    refused_by _ c.args.path.now c.end.result c.match-merge.written c.end.ensures.refused (refuses_unsaved _ _)
    (elim c.match-merge.branch [ in-Ok w ↦ if_written _ c.match-merge.written _ w.written-is | in-Err w ↦ if_unwritten _ c.match-merge.written _ w.written-is w.in-Err.ensures.refused ])

pub returns-clause-others : goal.returns-clause-others
returns-clause-others g c = others_through _ _ _ _ _ c.begin.ensures.changes c.begin.ensures.goes_on c.in_ok-output.ensures.begun c.end.ensures.goes_on c.end.ensures.others

pub returns-clause-undone : goal.returns-clause-undone
returns-clause-undone g c =
    let wrote : OnOk c.match-merge.written (WritesConcatenation (SourceMayYield g.R.Read.remaining) heading_of_source c.args.sources.items (g.F.Writer.Write.contents c.in_ok-output.output.writer) (g.F.Writer.Write.contents c.merge.new.out)) =
    elim c.match-merge.branch [ in-Ok w ↦ on_written c.match-merge.written w.in-Ok.ensures.written | in-Err w ↦ on_unwritten _ c.match-merge.written _ w.written-is ] in
    undone_through _ _ _ _ _ (kept_at _ _ _ c.begin.ensures.changes) c.begin.ensures.goes_on c.in_ok-output.ensures.begun c.end.ensures.goes_on _ _ c.in_ok-output.ensures.empty _ c.end.result c.match-merge.written
    (on_ok_weaker c.match-merge.written (λ writes honest.
    let left = index_left _ _ _ _ _ (kept_at _ _ _ c.begin.ensures.changes) c.begin.ensures.goes_on c.in_ok-output.ensures.begun c.end.ensures.goes_on _ _ c.in_ok-output.ensures.empty writes.whole writes.written honest in
    (left.0, left.1, λ there. record { pieces = writes.pieces; yielded = writes.yielded; whole = writes.whole; concatenation = writes.concatenation; saved = left.2 there })) wrote)
    c.end.ensures.undone
