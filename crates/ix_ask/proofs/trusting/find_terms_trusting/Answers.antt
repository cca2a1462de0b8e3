-- What the index of fewer terms says is of the whole collection.
use Rattle.std.proofs.Common.{subst, sym}
use Rattle.std.proofs.lemmas.Result.{err_from_is_err_and}
use Rattle.ix_file.specs.IndexText.{IsIndexText}
use Rattle.ix_file.specs.Sections.{Plain}
use Rattle.ix_projection.specs.Kept.{kept_collection}
use Rattle.ix_ask.proofs.TrustLemmas.{KeepsMatches, listed_kept, pattern_refused}
use Rattle.ix_ask.proofs.trusting.find_terms_trusting.Goals as goal

pub returns-in_err-text-clause-refused : goal.returns-in_err-text-clause-refused
returns-in_err-text-clause-refused g c =
    let p = err_from_is_err_and c.from_residual-in_err-text.result c.from_residual-in_err-text.ensures.1 in
    rw (p.1, p.2) (λ version collection has. pattern_refused (g.S.ReadAt.contents c.args.source.now) c.args.pattern.now version collection c.in_err-text.field-0.0 has c.in_err-text.ensures.refused)

pub returns-in_err-index-clause-refused : goal.returns-in_err-index-clause-refused
returns-in_err-index-clause-refused g c =
    let p = err_from_is_err_and c.from_residual-in_err-index.result c.from_residual-in_err-index.ensures.1 in
    rw (p.1, p.2) (λ version collection has.
    let fewer = c.in_ok-text.ensures.extracted version collection has in
    let kept = kept_collection fewer.keeps collection in
    c.in_err-index.ensures.exact Plain kept (subst (IsIndexText Plain kept) (sym c.deref.ensures.value) fewer.text))

pub returns-clause-listed : goal.returns-clause-listed
returns-clause-listed g c = λ version collection has.
    let fewer = c.in_ok-text.ensures.extracted version collection has in
    let kept = kept_collection fewer.keeps collection in
    let index = c.in_ok-index.ensures.exact Plain kept (subst (IsIndexText Plain kept) (sym c.deref.ensures.value) fewer.text) in
    listed_kept fewer.keeps collection c.args.pattern.now _ _ (subst (KeepsMatches fewer.keeps collection) c.in_ok-pieces.ensures.pieces fewer.wanted) (c.in_ok-rows.ensures.listed Plain kept index)

pub returns-clause-lawful : goal.returns-clause-lawful
returns-clause-lawful g c =
    let found = c.in_ok-index.ensures.found in
    (found.0, found.1.lawful, c.in_ok-rows.ensures.listed c.in_ok-index.index.version found.0 found.1)
