use Rattle.std.proofs.Common.{◌≡◌, ◌∙◌, List, ap, length, map, sym}
use Rattle.std.proofs.lemmas.List.{length-map}
use Rattle.std.proofs.lemmas.Result.{on_ok_weaker}
use Rattle.ix_files.specs.Locations.{place_of}
use Rattle.ix_files.specs.Slots.{Place}
use Rattle.ix_files.proofs.Drafting.{changed_again, went_on_again}
use Rattle.ix_manifest.specs.ManifestText.{manifest_text, view_of}
use Rattle.ix_archive_writer.specs.Changes.{documents_under, with_documents, with_segment}
use Rattle.ix_archive_writer.proofs.CommitLemmas.{ready_leaves, segment_commits, segment_leaves}
use Rattle.ix_archive_writer.proofs.Going.{then_leaves}
use Rattle.ix_archive_writer.proofs.FolderChanges.{none_in, one_in}
use Rattle.ix_archive_writer.proofs.adding.add_segment.Goals as goal

-- as many as there are
as_many : {X Y : Type 0} (f : X → Y) (docs : List X) (texts : List Y) → map f docs ≡ texts → length docs ≡ length texts
as_many f docs texts is = sym (length-map docs f) ∙ ap length is

pub returns-in_err-at-clause-any_moment : goal.returns-in_err-at-clause-any_moment
returns-in_err-at-clause-any_moment g c honest now base same ready = ready_leaves _ ready (g.met.F.Files.only_now c.args.files.now)

pub returns-in-Err-clause-any_moment : goal.returns-in-Err-clause-any_moment
returns-in-Err-clause-any_moment g c honest now base same ready = ready_leaves _ ready (g.met.F.Files.only_now c.args.files.now)

pub returns-in_err-segment-clause-any_moment : goal.returns-in_err-segment-clause-any_moment
returns-in_err-segment-clause-any_moment g c honest now base same ready = segment_leaves ready (place_of c.in_ok-at.at) c.in_ok-at.ensures c.write_blocks.ensures.changes honest _

pub returns-clause-done : goal.returns-clause-done
returns-clause-done g c = on_ok_weaker c.commit.result
    (λ done honest now base same ready.
    let written = c.commit.ensures.goes_on.honest honest in
    let texts = c.args.documents.now in
    done honest now (with_documents base (documents_under c.args.stop.now texts)) (manifest_text (with_segment (view_of c.args.manifest) c.in_ok-segment.segment)) c.text_with_segment-text.ensures
    (segment_commits ready (place_of c.in_ok-at.at) c.in_ok-at.ensures c.write_blocks.ensures.changes written c.args.stop.now c.in_ok-segment.segment _ (documents_under c.args.stop.now texts) same c.requires c.in_ok-segment.ensures.fit
    (c.in_ok-segment.ensures.written written c.args.stop.now texts c.in-Ok.ensures.inverted (as_many _ c.docs.result.now texts c.docs.ensures.documents))))
    c.commit.ensures.done

pub returns-clause-any_moment : goal.returns-clause-any_moment
returns-clause-any_moment g c honest now base same ready =
    let written = c.commit.ensures.goes_on.honest honest in
    let texts = c.args.documents.now in
    then_leaves (segment_leaves ready (place_of c.in_ok-at.at) c.in_ok-at.ensures c.write_blocks.ensures.changes written _)
    (c.commit.ensures.any_moment honest now (with_documents base (documents_under c.args.stop.now texts)) (manifest_text (with_segment (view_of c.args.manifest) c.in_ok-segment.segment)) c.text_with_segment-text.ensures
    (segment_commits ready (place_of c.in_ok-at.at) c.in_ok-at.ensures c.write_blocks.ensures.changes written c.args.stop.now c.in_ok-segment.segment _ (documents_under c.args.stop.now texts) same c.requires c.in_ok-segment.ensures.fit
    (c.in_ok-segment.ensures.written written c.args.stop.now texts c.in-Ok.ensures.inverted (as_many _ c.docs.result.now texts c.docs.ensures.documents))))

pub returns-clause-goes_on : goal.returns-clause-goes_on
returns-clause-goes_on g c = went_on_again c.write_blocks.ensures.goes_on c.commit.ensures.goes_on

pub returns-in_err-at-clause-changes : goal.returns-in_err-at-clause-changes
returns-in_err-at-clause-changes g c = none_in c.args.folder.now _ (g.met.F.Files.only_now c.args.files.now)

pub returns-in-Err-clause-changes : goal.returns-in-Err-clause-changes
returns-in-Err-clause-changes g c = none_in c.args.folder.now _ (g.met.F.Files.only_now c.args.files.now)

pub returns-in_err-segment-clause-changes : goal.returns-in_err-segment-clause-changes
returns-in_err-segment-clause-changes g c = one_in c.args.folder.now _ (ap (λ (place : Place). place.folder) c.in_ok-at.ensures) c.write_blocks.ensures.changes

pub returns-clause-changes : goal.returns-clause-changes
returns-clause-changes g c =
    changed_again (one_in c.args.folder.now _ (ap (λ (place : Place). place.folder) c.in_ok-at.ensures) c.write_blocks.ensures.changes) (c.commit.ensures.changes (ap (λ (place : Place). place.folder) c.in_ok-at.ensures)) c.commit.ensures.goes_on.honest
