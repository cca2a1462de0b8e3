-- What is found in the index of fewer terms is found in the whole segment.
use Rattle.std.proofs.Common.{subst, sym}
use Rattle.std.proofs.lemmas.Result.{IfErr-weaker, IfOk-weaker}
use Rattle.ix_index_text.specs.IndexText.{IsIndexText}
use Rattle.ix_index_text.specs.Sections.{Plain}
use Rattle.ix_projection.specs.Kept.{kept_collection}
use Rattle.ix_archive.proofs.FoundLemmas.{extract_refused, kept_refused, open_refused}
use Rattle.ix_archive.proofs.finding.find_in.Goals as goal

pub returns-in-Err-clause-refused : goal.returns-in-Err-clause-refused
returns-in-Err-clause-refused g c = λ version collection has.
    rw c.of_extract.ensures (extract_refused collection c.args.query.now c.args.file c.in-Err.error (c.in-Err.ensures.refused version collection has))

pub returns-in-Ok-open-clause-found : goal.returns-in-Ok-open-clause-found
returns-in-Ok-open-clause-found g c =
    IfOk-weaker c.find_left.result _ _ (λ lines fewer version collection has.
    let extracted = c.in-Ok.ensures.extracted version collection has in
    let part = extracted.projection in
    let kept = kept_collection part.keeps collection in
    let index = c.in-Ok-open.ensures.exact Plain kept (subst (IsIndexText Plain kept) (sym c.deref.ensures.value) part.text) in
    fewer Plain collection part.keeps extracted.tree index extracted.parsed part.wanted) c.find_left.ensures.fewer

pub returns-in-Ok-open-clause-refused : goal.returns-in-Ok-open-clause-refused
returns-in-Ok-open-clause-refused g c =
    IfErr-weaker c.find_left.result _ _ (λ error refused version collection has.
    let extracted = c.in-Ok.ensures.extracted version collection has in
    let part = extracted.projection in
    let kept = kept_collection part.keeps collection in
    let index = c.in-Ok-open.ensures.exact Plain kept (subst (IsIndexText Plain kept) (sym c.deref.ensures.value) part.text) in
    kept_refused part.keeps collection c.args.query.now error (refused Plain kept index)) c.find_left.ensures.refused

pub returns-clause-refused : goal.returns-clause-refused
returns-clause-refused g c = λ version collection has.
    let part = (c.in-Ok.ensures.extracted version collection has).projection in
    let kept = kept_collection part.keeps collection in
    rw c.of_open.ensures (open_refused collection.stop c.args.query.now c.args.file c.in-Err-open.error
    (c.in-Err-open.ensures.exact Plain kept (subst (IsIndexText Plain kept) (sym c.deref.ensures.value) part.text)))
