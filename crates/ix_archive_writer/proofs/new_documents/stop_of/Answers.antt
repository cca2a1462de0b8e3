use Rattle.std.proofs.Common.{◌∙◌, List, ap, sym}
use Rattle.std.specs.Prelude.{slice_get}
use Rattle.ix_files.specs.Locations.{place_of}
use Rattle.ix_manifest.specs.declared.manifest.Segment.{Segment}
use Rattle.ix_archive_writer.specs.Changes.{stop_given}
use Rattle.ix_archive_writer.proofs.AddingLemmas.{stop_read}
use Rattle.ix_archive_writer.proofs.new_documents.stop_of.Goals as goal

pub returns : goal.returns
returns g c honest now found =
    stop_read c.args.folder.now now c.args.manifest.now c.in-Some.manifest (stop_given c.args.given) c.in-Some-first.segment.now (place_of c.in_ok-at.at) c.in_ok-own.own _ c.in-Some.is
    (ap (λ (l : List Segment). slice_get l 0) (sym c.deref.ensures.value) ∙ sym c.in-Some-first.ensures.value) c.in_ok-at.ensures found (c.in_ok-own.ensures honest)
