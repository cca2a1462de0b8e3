use Rattle.std.proofs.Common.{◌≡◌, ◌∙◌, sym, subst}
use Rattle.std.proofs.lemmas.Result.{IfOk-weaker}
use Rattle.ix_files.specs.Slots.{Place}
use Rattle.ix_archive.specs.Layouts.{IsRemovalsFile, IsRemovalsText}
use Rattle.ix_archive.specs.Openings.{IsText}
use Rattle.ix_archive.proofs.OpenLemmas.{removals_ok, removals_err}
use Rattle.ix_archive.proofs.opening.open_removals.Goals as goal

pub returns-clause-listed : goal.returns-clause-listed
returns-clause-listed g c =
    IfOk-weaker c.parse_removals.result _ _ (λ read is. subst (IsRemovalsText read c.args.line.now) is.written is) c.parse_removals.ensures.found

pub returns-clause-read : goal.returns-clause-read
returns-clause-read g c =
    removals_ok c.parse_removals.result _ _ (λ documents removals text is file.
    let told = c.in_ok-source.ensures.told text (subst (λ (place : Place). IsText (g.F.Files.view c.args.files.now) place text) (sym c.in_ok-at.ensures) is) in
    let same : c.deref.result.now ≡ text = c.deref.ensures.value ∙ c.in_ok-text.ensures.read text told in
    c.parse_removals.ensures.exact documents removals (subst (IsRemovalsFile documents removals c.args.line.now) (sym same) file))

pub returns-clause-refused : goal.returns-clause-refused
returns-clause-refused g c =
    removals_err c.parse_removals.result _ _ (λ documents removals text is file.
    let told = c.in_ok-source.ensures.told text (subst (λ (place : Place). IsText (g.F.Files.view c.args.files.now) place text) (sym c.in_ok-at.ensures) is) in
    let same : c.deref.result.now ≡ text = c.deref.ensures.value ∙ c.in_ok-text.ensures.read text told in
    c.parse_removals.ensures.exact documents removals (subst (IsRemovalsFile documents removals c.args.line.now) (sym same) file))
