use Rattle.std.proofs.Common.{◌≡◌, List, ℕ, subst, sym}
use Rattle.std.proofs.lemmas.Result.{IfOk-weaker}
use Rattle.ix_index_text.specs.IndexText.{IsIndexText}
use Rattle.ix_index_text.specs.Sections.{Plain}
use Rattle.ix_query_text.specs.Grammar.{Reads}
use Rattle.ix_projection.specs.Asked.{AsksAbout}
use Rattle.ix_extract.specs.ErrorsHandedUp.{IsOfOpen}
use Rattle.ix_extract.specs.Projections.{without_documents}
use Rattle.ix_extract.specs.Refusals.{IsReadFault}
use Rattle.ix_extract.specs.declared.extract_error.ExtractError.TheVariants.{Query}
use Rattle.ix_extract.proofs.ErrorLemmas.{err_weaker, handed_up, read_refused}
use Rattle.ix_extract.proofs.Projecting.{wants_fewer}
use Rattle.ix_extract.proofs.QueryLemmas.{open_refused, parse_refused, same_stop}
use Rattle.ix_extract.proofs.StopLemmas.{stop_is_text}
use Rattle.ix_extract.proofs.extract.extract_query.Goals as goal

pub returns-in_err-trailer-clause-refused : goal.returns-in_err-trailer-clause-refused
returns-in_err-trailer-clause-refused g c =
    let contents = g.S.ReadAt.contents c.args.source.now in
    handed_up (λ error. error ≡ c.in_err-trailer.field-0.0) _ c.from_residual.result c.from_residual.ensures.1
    (λ error is version collection has. read_refused contents version collection c.args.query.now error has (subst (IsReadFault contents) (sym is) c.in_err-trailer.ensures.refused))

pub returns-in_err-index-clause-refused : goal.returns-in_err-index-clause-refused
returns-in_err-index-clause-refused g c =
    let contents = g.S.ReadAt.contents c.args.source.now in
    let given = c.in_err-index.field-0.0 in
    handed_up (IsOfOpen given) _ c.from_residual-in_err-index.result c.from_residual-in_err-index.ensures.1
    (λ error of version collection has.
    let text = subst (IsIndexText Plain (without_documents collection)) (sym c.as_slice.ensures.value)
    (stop_is_text contents version collection c.in_ok-trailer.trailer c.in_ok-text.text.items has c.in_ok-trailer.ensures.trailer c.in_ok-text.ensures.text) in
    open_refused collection c.args.query.now given error of (c.in_err-index.ensures.exact Plain (without_documents collection) text))

pub returns-in_err-query-clause-refused : goal.returns-in_err-query-clause-refused
returns-in_err-query-clause-refused g c =
    let contents = g.S.ReadAt.contents c.args.source.now in
    let fault = c.in_err-query.field-0.0 in
    handed_up (λ error. error ≡ Query fault) _ c.from_residual-in_err-query.result c.from_residual-in_err-query.ensures.1
    (λ error is version collection has.
    let text = subst (IsIndexText Plain (without_documents collection)) (sym c.as_slice.ensures.value)
    (stop_is_text contents version collection c.in_ok-trailer.trailer c.in_ok-text.text.items has c.in_ok-trailer.ensures.trailer c.in_ok-text.ensures.text) in
    parse_refused collection c.args.query.now c.stop.result.now fault error is
    (same_stop c.in_ok-index.index collection c.stop.result.now c.stop.ensures (c.in_ok-index.ensures.exact Plain (without_documents collection) text)) c.in_err-query.ensures.exact)

pub returns-clause-extracted : goal.returns-clause-extracted
returns-clause-extracted g c = λ version collection has.
    let contents = g.S.ReadAt.contents c.args.source.now in
    let query = c.in_ok-query.query in
    let text = subst (IsIndexText Plain (without_documents collection)) (sym c.as_slice.ensures.value)
    (stop_is_text contents version collection c.in_ok-trailer.trailer c.in_ok-text.text.items has c.in_ok-trailer.ensures.trailer c.in_ok-text.ensures.text) in
    let stop = same_stop c.in_ok-index.index collection c.stop.result.now c.stop.ensures (c.in_ok-index.ensures.exact Plain (without_documents collection) text) in
    IfOk-weaker c.extract.result _ _
    (λ found is. record {
      tree = query;
      parsed = subst (λ (s : List (List ℕ)). Reads s c.args.query.now query) stop c.in_ok-query.ensures.found;
      projection = wants_fewer collection _ (λ term. AsksAbout term query) found.items
          (λ term asks. (c.in_ok-matcher.ensures.wanted term).1 (subst (AsksAbout term) (sym c.tree.ensures.same) asks)) is;
    }) (c.extract.ensures.extracted version collection has)

pub returns-clause-refused : goal.returns-clause-refused
returns-clause-refused g c =
    let contents = g.S.ReadAt.contents c.args.source.now in
    err_weaker c.extract.result (IsReadFault contents) _ (λ error refused version collection has. read_refused contents version collection c.args.query.now error has refused) c.extract.ensures.refused
