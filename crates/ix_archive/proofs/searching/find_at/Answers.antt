use Rattle.std.proofs.Common.{◌≡◌, ◌∙◌, ap, subst, sym, take, List, ℕ}
use Rattle.std.proofs.lemmas.Option.{get_or_from_slice_get}
use Rattle.std.proofs.lemmas.Result.{IfErr-weaker, IfOk-weaker}
use Rattle.ix_extract.specs.Projections.{HasIndexText}
use Rattle.ix_manifest.specs.declared.manifest.Segment.{Segment}
use Rattle.ix_archive.specs.Findings.{FindsIn}
use Rattle.ix_archive.specs.OpenedArchives.{first_after}
use Rattle.ix_archive.proofs.FoundLemmas.{match_told}
use Rattle.ix_archive.proofs.searching.find_at.Goals as goal

pub returns : goal.returns
returns g c = λ source version collection at has.
    let found = c.index-2.result.now in
    let same : found ≡ source = c.index-2.ensures ∙ get_or_from_slice_get c.args.opened.now.sources.items c.args.place source found at in
    let there = subst (λ one. HasIndexText (g.S.ReadAt.contents one) version collection) (sym same) has in
    let first = c.first_behind-first.ensures ∙ ap (λ (segments : List Segment). first_after (take c.args.place segments)) c.deref.ensures.value in
    match_told c.find_in.result _ _
    (IfOk-weaker c.find_in.result _ _ (λ lines finds. subst (λ (n : ℕ). FindsIn collection c.args.opened.now.removals n c.args.query.now lines.bytes.items lines.count) first (finds version collection there)) c.find_in.ensures.found)
    (IfErr-weaker c.find_in.result _ _ (λ error refused. refused version collection there) c.find_in.ensures.refused)
