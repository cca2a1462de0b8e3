use Rattle.std.proofs.Common.{◌≡◌, ◌∙◌, ◌++◌, List, ℕ, ap, arith, length, subst, sym}
use Rattle.std.specs.Prelude.{map, string_bytes}
use Rattle.std.proofs.lemmas.List.{length-map}
use Rattle.ix_file.specs.Opened.{names_of}
use Rattle.ix_index_text.specs.IndexText.{IsIndexText}
use Rattle.ix_index_text.specs.Sections.{Plain}
use Rattle.ix_files.specs.Slots.{Kept, Place}
use Rattle.ix_projection.specs.Kept.{kept_collection}
use Rattle.ix_scan.specs.ScansWithout.{of_documents}
use Rattle.ix_archive_writer.specs.Changes.{names_in}
use Rattle.ix_archive_writer.specs.Takings.{AreTaken}
use Rattle.ix_archive_writer.proofs.Projected.{names_projected}
use Rattle.ix_archive_writer.proofs.finding.take_segment.Goals as goal

pub returns-clause-taken : goal.returns-clause-taken
returns-clause-taken g c honest stop text documents kept is before counted are =
    let part = c.in_ok-text.ensures honest stop documents text (subst (λ (place : Place). ((g.F.Files.view c.args.files.now).slots place).now ≡ Kept text) (sym c.in_ok-at.ensures) kept) is in
    let collection = kept_collection part.keeps (of_documents stop documents) in
    let index = c.in-Ok.ensures.exact Plain collection (subst (IsIndexText Plain collection) (sym c.as_slice.ensures.value) part.text) in
    let rows = c.in-Ok.index.parts.rows in
    let names : names_of rows ≡ names_in documents = names_projected part.keeps stop documents _ index.parts in
    let as_many : length rows ≡ length documents = sym (length-map rows _) ∙ ap (λ (l : List (List ℕ)). length l) names ∙ length-map documents _ in (
      subst (λ (l : List (List ℕ)). AreTaken c.args.asked.now c.args.removed.now (before ++ l) (map string_bytes c.take_names.new.taken.items)) names (c.in_ok-take_names.ensures before counted are),
      omega (arith, c.in-Some.ensures.1, c.from.ensures, c.doc_count.ensures.count, as_many),
    )

pub returns-clause-small : goal.returns-clause-small
returns-clause-small g c = omega (arith, c.in-Some.ensures.0, c.in-Some.ensures.1)
