use Rattle.std.proofs.Common.{◌≡◌, ◌∙◌, ℕ, List, refl, sym, ap, subst}
use Rattle.std.specs.Option.{option_copied}
use Rattle.std.proofs.lemmas.Result.{err_from_is_err_and}
use Rattle.ix_file.specs.Opened.{Opened as Index, names_of}
use Rattle.ix_archive.specs.Checks.{AreCounted}
use Rattle.ix_archive.specs.Findings.{IsGoneFrom}
use Rattle.ix_archive.specs.Layouts.{IsSegmentOf}
use Rattle.ix_archive.proofs.checking.pass.Goals as goal

pub returns-in_err-volume-clause-refused : goal.returns-in_err-volume-clause-refused
returns-in_err-volume-clause-refused g c =
    let p = err_from_is_err_and c.from_residual.result c.from_residual.ensures.1 in
    rw (p.1, p.2) (c.in_err-volume.ensures.refused (option_copied c.args.stop))

pub returns-then-not-fits-clause-refused : goal.returns-then-not-fits-clause-refused
returns-then-not-fits-clause-refused g c = (
  refl,
  λ stop documents given is.
      let other : c.stop.result.now ≡ stop = c.stop.ensures ∙ ap (λ (v : Index). v.parts.stop) c.index-index.ensures ∙ c.in_ok-volume.ensures.opened.only stop documents is in
      let differ = rw c.if-not-fits.true at c.fits.ensures in
      differ (rw other given),
)

pub returns-clause-passed : goal.returns-clause-passed
returns-clause-passed g c =
    let opened = c.in_ok-volume.ensures.opened in
    let own : c.stop.result.now ≡ c.in_ok-copy.field-0 = c.stop.ensures ∙ sym c.stop-2.ensures ∙ sym c.in_ok-copy.ensures.same in
    let stop_is : c.in_ok-volume.volume.parts.stop ≡ c.in_ok-copy.field-0 =
    sym (ap (λ (v : Index). v.parts.stop) c.index-index.ensures) ∙ sym c.stop.ensures ∙ own in
    let names = ap (λ (v : Index). names_of v.parts.rows) c.index-index.ensures ∙ opened.named in
    record {
      documents = opened.documents;
      of = subst (λ (stop : List (List ℕ)). IsSegmentOf stop c.args.segment.now c.args.text.items opened.documents) stop_is opened.of;
      same = rw (← own) (rw c.if-not-fits.false at c.fits.ensures);
      only = λ other others is. sym stop_is ∙ opened.only other others is;
      counted = subst (λ (l : List (List ℕ)). AreCounted (IsGoneFrom c.args.removals.now c.args.first l) c.count_gone.result) names c.count_gone.ensures;
    }
