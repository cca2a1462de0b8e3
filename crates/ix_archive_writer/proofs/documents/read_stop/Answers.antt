use Rattle.std.proofs.Common.{◌∙◌, subst, sym}
use Rattle.ix_index_text.specs.IndexText.{IsIndexText}
use Rattle.ix_index_text.specs.Sections.{Plain}
use Rattle.ix_projection.specs.Kept.{kept_collection}
use Rattle.ix_scan.specs.ScansWithout.{of_documents}
use Rattle.ix_archive_writer.proofs.Projected.{stop_projected}
use Rattle.ix_archive_writer.proofs.documents.read_stop.Goals as goal

pub returns-in-Ok : goal.returns-in-Ok
returns-in-Ok g c honest stop documents text kept is =
    let part = c.in_ok-text.ensures honest stop documents text kept is in
    let collection = kept_collection part.keeps (of_documents stop documents) in
    let index = c.in-Ok.ensures.exact Plain collection (subst (IsIndexText Plain collection) (sym c.as_slice.ensures.value) part.text) in
    c.in_ok-copy-in-Ok.ensures.same ∙ c.stop.ensures ∙ stop_projected part.keeps stop documents _ index.parts
