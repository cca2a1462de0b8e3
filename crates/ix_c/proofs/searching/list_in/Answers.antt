-- What was opened is the index of the collection whose index text the bytes are.
use Rattle.std.proofs.lemmas.Result.{IfErr-at_err, IfErr-weaker, IfOk-at_ok, IfOk-weaker}
use Rattle.ix_c.specs.Searching.{RefusesListing}
use Rattle.ix_c.proofs.SearchLemmas.{given_err, given_ok, refuses_listing, unopened}
use Rattle.ix_c.proofs.searching.list_in.Goals as goal

pub returns-in-Ok-clause-listed : goal.returns-in-Ok-clause-listed
returns-in-Ok-clause-listed c =
    let version = c.in-Ok.index.version in
    let (collection, index, spelled) = IfOk-at_ok _ c.in-Ok.is (given_ok _ c.open.result _ c.index_or_refusal.ensures c.open.ensures.found) in
    IfOk-weaker c.match_in.result _ _ (λ rows listed. record { version = version; collection = collection; spelled = spelled; listed = listed version collection index }) c.match_in.ensures.listed

pub returns-in-Ok-clause-refused : goal.returns-in-Ok-clause-refused
returns-in-Ok-clause-refused c =
    IfErr-weaker c.match_in.result _ _ (λ reason refuses. refuses_listing c.args.index.now c.args.pattern.now reason refuses) c.match_in.ensures.refused

pub returns-in-Err-clause-refused : goal.returns-in-Err-clause-refused
returns-in-Err-clause-refused c =
    let index = c.args.index.now in
    IfErr-at_err (RefusesListing index c.args.pattern.now) c.in-Err.is (given_err _ c.open.result _ c.index_or_refusal.ensures (unopened index _ c.open.result c.open.ensures.exact))
