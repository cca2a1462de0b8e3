use Rattle.std.proofs.Common.{[], subst, sym}
use Rattle.std.proofs.lemmas.Result.{err_from_is_err_and}
use Rattle.ix_files.specs.Slots.{Place}
use Rattle.ix_manifest.specs.declared.manifest.Segment.{Segment}
use Rattle.ix_archive.specs.Openings.{IsText}
use Rattle.ix_archive.proofs.OpenLemmas.{all_opened, opened_more, text_at}
use Rattle.ix_archive.proofs.opening.open_segments.Goals as goal

abbrev none : Segment
none = record { file = 0; documents = 0; bytes = 0; digest = [] }

pub returns-in_err-open_file-clause-refused : goal.returns-in_err-open_file-clause-refused
returns-in_err-open_file-clause-refused g c =
    let p = err_from_is_err_and c.from_residual-in_err-open_file.result c.from_residual-in_err-open_file.ensures.1 in
    rw (p.1, p.2) (λ texts are.
    let found = text_at (g.F.Files.view c.args.files.now) c.args.folder.now c.args.segments.now texts c.loop-segment.segment-index none are c.loop-segment-test.true in
    c.in_err-open_file.ensures.refused found.text (subst (λ (place : Place). IsText (g.F.Files.view c.args.files.now) place found.text) (sym c.in_ok-at.ensures) found.there) found.sized)

pub loop-segment-preserved : goal.loop-segment-preserved
loop-segment-preserved g c =
    rw c.in_ok-push.ensures.items (opened_more g.F.Ranges.ReadAt.contents (g.F.Files.view c.args.files.now) c.args.folder.now c.args.segments.now c.loop-segment.segment-index c.loop-segment.sources.items none
    c.in_ok-open_file.field-0 _ c.loop-segment-test.true c.in_ok-at.ensures c.in_ok-open_file.ensures.told c.loop-segment.invariant)

pub returns-clause-told : goal.returns-clause-told
returns-clause-told g c = λ texts are. all_opened _ _ _ _ c.loop-segment.segment-index _ texts c.loop-segment-test.false are c.loop-segment.invariant
