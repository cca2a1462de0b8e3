use Rattle.std.proofs.Common.{◌≡◌, ◌∙◌, ap, get_or, length, ℕ, ◌<◌}
use Rattle.std.specs.Prelude.{Result}
use Rattle.std.proofs.lemmas.Result.{IfErr-weaker, IfOk-weaker}
use Rattle.ix_ask.specs.declared.output.Lines.{Lines}
use Rattle.ix_archive.specs.OpenedArchives.{AnswersAt}
use Rattle.ix_archive.specs.declared.read_error.ReadError.{ReadError}
use Rattle.ix_archive.proofs.AnswerLemmas.{archive_answer, archive_refused}
use Rattle.ix_archive.proofs.searching.find.Goals as goal

pub returns-clause-found : goal.returns-clause-found
returns-clause-found g c =
    let parts = c.deref.result.now in
    let size : length parts ≡ length c.args.opened.now.sources.items = ap length c.deref.ensures.value ∙ c.in_ok-parts.ensures.all in
    let each : (i : ℕ) (d : Result Lines ReadError) → i < length c.args.opened.now.sources.items → AnswersAt g.S.ReadAt.contents c.args.opened.now i c.args.query.now (get_or parts i d) =
    rw c.deref.ensures.value c.in_ok-parts.ensures.each in
    IfOk-weaker c.join_parts.result _ _ (λ lines are archive is.
    archive_answer g.S.ReadAt.contents c.args.opened.now c.args.query.now parts each lines size are archive is) c.join_parts.ensures.joined

pub returns-clause-refused : goal.returns-clause-refused
returns-clause-refused g c =
    let parts = c.deref.result.now in
    let size : length parts ≡ length c.args.opened.now.sources.items = ap length c.deref.ensures.value ∙ c.in_ok-parts.ensures.all in
    let each : (i : ℕ) (d : Result Lines ReadError) → i < length c.args.opened.now.sources.items → AnswersAt g.S.ReadAt.contents c.args.opened.now i c.args.query.now (get_or parts i d) =
    rw c.deref.ensures.value c.in_ok-parts.ensures.each in
    IfErr-weaker c.join_parts.result _ _ (λ error refused archive is.
    archive_refused g.S.ReadAt.contents c.args.opened.now c.args.query.now parts error each size refused archive is) c.join_parts.ensures.refused
