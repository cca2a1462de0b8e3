-- The text that was written is that of the run.
use Rattle.std.proofs.Common.{OnOk}
use Rattle.std.specs.Io.KnownBytes.{Appends}
use Rattle.std.proofs.lemmas.Result.{on_ok_weaker}
use Rattle.ix_run.specs.Runs.{run_bytes}
use Rattle.ix_command.proofs.Saving.{kept_at, on_unwritten, on_written, text_left, undone_through}
use Rattle.ix_command.proofs.commands.run_file.save.Goals.{in-Ok, in-Err}
use Rattle.ix_command.proofs.commands.run_file.save.Goals as goal

pub returns-clause-undone : goal.returns-clause-undone
returns-clause-undone g c =
    let wrote : OnOk c.match-put_run.written (Appends (g.F.Writer.Write.contents c.in_ok-output.output.writer) (g.F.Writer.Write.contents c.put_run.new.writer) (run_bytes c.args.run.now)) =
    elim c.match-put_run.branch [ in-Ok w ↦ on_written c.match-put_run.written w.in-Ok.ensures.written | in-Err w ↦ on_unwritten _ c.match-put_run.written _ w.written-is ] in
    undone_through _ _ _ _ _ (kept_at _ _ _ c.begin.ensures.changes) c.begin.ensures.goes_on c.in_ok-output.ensures.begun c.end.ensures.goes_on _ _ c.in_ok-output.ensures.empty _ c.end.result c.match-put_run.written
    (on_ok_weaker c.match-put_run.written (λ written honest. text_left _ _ _ _ _ (kept_at _ _ _ c.begin.ensures.changes) c.begin.ensures.goes_on c.in_ok-output.ensures.begun c.end.ensures.goes_on _ _ c.in_ok-output.ensures.empty _ written honest) wrote) c.end.ensures.undone
