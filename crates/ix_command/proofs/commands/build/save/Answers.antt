-- The text that was written is that of the collection, if the runs came back.
use Rattle.std.proofs.Common.{OnOk, inl}
use Rattle.std.proofs.lemmas.Result.{on_ok_weaker}
use Rattle.ix_text.specs.Collections.{collection_of}
use Rattle.ix_file.specs.Endings.{WritesIndexText}
use Rattle.ix_build.specs.AlikeFronts.{WritesAlike}
use Rattle.ix_command.specs.BuiltIndexes.{ComeBack}
use Rattle.ix_command.specs.Files.{keeping_of}
use Rattle.ix_command.proofs.BuildLemmas.{come_back, unbuilt_unsaved}
use Rattle.ix_command.proofs.FileLemmas.{handed_up}
use Rattle.ix_command.proofs.Runs.{begun_behind, kept_behind, left_by, others_built, went_all}
use Rattle.ix_command.proofs.Saving.{alike_saved, both_left, if_unwritten, if_written, index_saved, on_err, on_unwritten, on_written, others_left, refused_by, saved_by, target_left, undone_through}
use Rattle.ix_command.proofs.commands.build.save.Goals.{in-Ok, in-Err}
use Rattle.ix_command.proofs.commands.build.save.Goals as goal

pub returns-in_err-output-clause-refused : goal.returns-in_err-output-clause-refused
returns-in_err-output-clause-refused g c =
    handed_up _ c.from_residual-in_err-output.result c.in_err-output.field-0.0 c.from_residual-in_err-output.ensures.1 (unbuilt_unsaved _ _ _ _ c.in_err-output.ensures.refused)

pub returns-in_err-output-clause-others : goal.returns-in_err-output-clause-others
returns-in_err-output-clause-others g c honest = inl (others_left _ _ _ c.begin.ensures.changes honest)

pub returns-in_err-output-clause-undone : goal.returns-in_err-output-clause-undone
returns-in_err-output-clause-undone g c = on_err c.from_residual-in_err-output.result (λ honest. inl (target_left _ _ _ c.begin.ensures.changes honest))

pub returns-clause-saved : goal.returns-clause-saved
returns-clause-saved g c =
    let exact : OnOk c.match-build.written ((ComeBack (keeping_of g.F.Shared.Reader.Read.remaining g.F.Shared.SharedFiles.shared g.F.Shared.SharedFiles.back) c.args.plan.now c.args.stop.now c.args.documents.now) → WritesIndexText (g.F.Writer.Write.contents c.in_ok-output.output.writer) (g.F.Writer.Write.contents c.build.new.out) (collection_of c.args.stop.now c.args.documents.now)) =
    elim c.match-build.branch [ in-Ok w ↦ on_written c.match-build.written (λ come. come_back _ _ _ _ _ w.in-Ok.ensures.written w.in-Ok.ensures.exact come) | in-Err w ↦ on_unwritten _ c.match-build.written _ w.written-is ] in
    saved_by _ _ _ c.end-ended.result c.match-build.written c.end-ended.ensures.written exact c.end-ended.ensures.saved
    (λ writes saved come. index_saved _ _ _ _ _ (kept_behind _ _ _ _ _ _ _ c.requires.apart c.begin.ensures.changes c.begin.ensures.goes_on c.in_ok-output.ensures.begun c.build.ensures.changes c.build.ensures.goes_on)
    (went_all _ _ _ _ _ _ _ c.requires.apart c.begin.ensures.changes c.begin.ensures.goes_on c.in_ok-output.ensures.begun c.build.ensures.changes c.build.ensures.goes_on)
    (begun_behind _ _ _ _ _ _ _ c.requires.apart c.begin.ensures.changes c.begin.ensures.goes_on c.in_ok-output.ensures.begun c.build.ensures.changes c.build.ensures.goes_on c.in_ok-output.ensures.ready)
    c.end-ended.ensures.goes_on _ _ (λ honest. c.in_ok-output.ensures.empty (c.build.ensures.goes_on.honest honest)) _ _ (writes come) saved)

pub returns-clause-alike : goal.returns-clause-alike
returns-clause-alike g c =
    let alike : OnOk c.match-build.written (WritesAlike (collection_of c.args.stop.now c.args.documents.now) (g.F.Writer.Write.contents c.in_ok-output.output.writer) (g.F.Writer.Write.contents c.build.new.out)) =
    elim c.match-build.branch [ in-Ok w ↦ on_written c.match-build.written (w.in-Ok.ensures.alike) | in-Err w ↦ on_unwritten _ c.match-build.written _ w.written-is ] in
    saved_by _ _ _ c.end-ended.result c.match-build.written c.end-ended.ensures.written alike c.end-ended.ensures.saved
    (λ writes saved. alike_saved _ _ _ _ _ (kept_behind _ _ _ _ _ _ _ c.requires.apart c.begin.ensures.changes c.begin.ensures.goes_on c.in_ok-output.ensures.begun c.build.ensures.changes c.build.ensures.goes_on)
    (went_all _ _ _ _ _ _ _ c.requires.apart c.begin.ensures.changes c.begin.ensures.goes_on c.in_ok-output.ensures.begun c.build.ensures.changes c.build.ensures.goes_on)
    (begun_behind _ _ _ _ _ _ _ c.requires.apart c.begin.ensures.changes c.begin.ensures.goes_on c.in_ok-output.ensures.begun c.build.ensures.changes c.build.ensures.goes_on c.in_ok-output.ensures.ready)
    c.end-ended.ensures.goes_on _ _ (λ honest. c.in_ok-output.ensures.empty (c.build.ensures.goes_on.honest honest)) _ _ writes saved)

pub returns-clause-refused : goal.returns-clause-refused
returns-clause-refused g c =
    refused_by _ c.args.path.now c.end-ended.result c.match-build.written c.end-ended.ensures.refused (unbuilt_unsaved c.args.plan.now c.args.documents.now _)
    (elim c.match-build.branch [ in-Ok w ↦ if_written _ c.match-build.written _ w.written-is | in-Err w ↦ if_unwritten _ c.match-build.written _ w.written-is (record { any = w.in-Err.ensures.spilled; of_memory = w.in-Err.ensures.refused }) ])

pub returns-clause-others : goal.returns-clause-others
returns-clause-others g c honest =
    others_built _ _ _ _ _ _ _ c.requires.apart c.begin.ensures.changes c.begin.ensures.goes_on c.in_ok-output.ensures.begun c.build.ensures.changes c.build.ensures.goes_on _ c.end-ended.ensures.goes_on c.in_ok-output.ensures.ready
    (left_by _ _ _ c.build.result c.build.ensures.gone c.build.ensures.left) c.end-ended.ensures.others honest

pub returns-clause-undone : goal.returns-clause-undone
returns-clause-undone g c =
    let kept = kept_behind _ _ _ _ _ _ _ c.requires.apart c.begin.ensures.changes c.begin.ensures.goes_on c.in_ok-output.ensures.begun c.build.ensures.changes c.build.ensures.goes_on in
    let went = went_all _ _ _ _ _ _ _ c.requires.apart c.begin.ensures.changes c.begin.ensures.goes_on c.in_ok-output.ensures.begun c.build.ensures.changes c.build.ensures.goes_on in
    let begun = begun_behind _ _ _ _ _ _ _ c.requires.apart c.begin.ensures.changes c.begin.ensures.goes_on c.in_ok-output.ensures.begun c.build.ensures.changes c.build.ensures.goes_on c.in_ok-output.ensures.ready in
    let both : OnOk c.match-build.written (((ComeBack (keeping_of g.F.Shared.Reader.Read.remaining g.F.Shared.SharedFiles.shared g.F.Shared.SharedFiles.back) c.args.plan.now c.args.stop.now c.args.documents.now) → WritesIndexText (g.F.Writer.Write.contents c.in_ok-output.output.writer) (g.F.Writer.Write.contents c.build.new.out) (collection_of c.args.stop.now c.args.documents.now)) × WritesAlike (collection_of c.args.stop.now c.args.documents.now) (g.F.Writer.Write.contents c.in_ok-output.output.writer) (g.F.Writer.Write.contents c.build.new.out)) =
    elim c.match-build.branch [ in-Ok w ↦ on_written c.match-build.written ((λ come. come_back _ _ _ _ _ w.in-Ok.ensures.written w.in-Ok.ensures.exact come), w.in-Ok.ensures.alike) | in-Err w ↦ on_unwritten _ c.match-build.written _ w.written-is ] in
    undone_through _ _ _ _ _ kept went begun c.end-ended.ensures.goes_on _ _ (λ honest. c.in_ok-output.ensures.empty (c.build.ensures.goes_on.honest honest)) _ c.end-ended.result c.match-build.written
    (on_ok_weaker c.match-build.written (λ writes honest. both_left _ _ _ _ _ kept went begun c.end-ended.ensures.goes_on _ _ (λ honest. c.in_ok-output.ensures.empty (c.build.ensures.goes_on.honest honest)) _ _ writes.0 writes.1 honest) both) c.end-ended.ensures.undone
