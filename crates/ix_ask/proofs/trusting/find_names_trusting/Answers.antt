-- What the index of fewer terms says is of the whole collection.
use Rattle.std.proofs.Common.{subst, sym}
use Rattle.std.proofs.lemmas.Result.{err_from_is_err_and}
use Rattle.ix_file.specs.IndexText.{IsIndexText}
use Rattle.ix_file.specs.Sections.{Plain}
use Rattle.ix_projection.specs.Kept.{kept_collection}
use Rattle.ix_ask.proofs.TrustLemmas.{kept_refused, query_refused}
use Rattle.ix_ask.proofs.trusting.find_names_trusting.Goals as goal

pub returns-in_err-text-clause-refused : goal.returns-in_err-text-clause-refused
returns-in_err-text-clause-refused g c =
    let p = err_from_is_err_and c.from_residual.result c.from_residual.ensures.1 in
    rw (p.1, p.2) (λ version collection has. query_refused collection c.args.query.now c.in_err-text.field-0.0 (c.in_err-text.ensures.refused version collection has))

pub returns-in_err-index-clause-refused : goal.returns-in_err-index-clause-refused
returns-in_err-index-clause-refused g c =
    let p = err_from_is_err_and c.from_residual-in_err-index.result c.from_residual-in_err-index.ensures.1 in
    rw (p.1, p.2) (λ version collection has.
    let fewer = (c.in_ok-text.ensures.extracted version collection has).projection in
    let kept = kept_collection fewer.keeps collection in
    c.in_err-index.ensures.exact Plain kept (subst (IsIndexText Plain kept) (sym c.deref.ensures.value) fewer.text))

pub returns-in_err-names-clause-refused : goal.returns-in_err-names-clause-refused
returns-in_err-names-clause-refused g c =
    let p = err_from_is_err_and c.from_residual-in_err-names.result c.from_residual-in_err-names.ensures.1 in
    rw (p.1, p.2) (λ version collection has.
    let fewer = (c.in_ok-text.ensures.extracted version collection has).projection in
    let kept = kept_collection fewer.keeps collection in
    let index = c.in_ok-index.ensures.exact Plain kept (subst (IsIndexText Plain kept) (sym c.deref.ensures.value) fewer.text) in
    kept_refused fewer.keeps collection c.args.query.now c.in_err-names.field-0.0 (c.in_err-names.ensures.refused Plain kept index))

pub returns-clause-found : goal.returns-clause-found
returns-clause-found g c = λ version collection has.
    let extracted = c.in_ok-text.ensures.extracted version collection has in
    let fewer = extracted.projection in
    let kept = kept_collection fewer.keeps collection in
    let index = c.in_ok-index.ensures.exact Plain kept (subst (IsIndexText Plain kept) (sym c.deref.ensures.value) fewer.text) in
    c.in_ok-names.ensures.fewer Plain collection fewer.keeps extracted.tree index extracted.parsed fewer.wanted

pub returns-clause-lawful : goal.returns-clause-lawful
returns-clause-lawful g c =
    let found = c.in_ok-index.ensures.found in
    (found.0, found.1.lawful, c.in_ok-names.ensures.found c.in_ok-index.index.version found.0 found.1)
