-- What was opened is the index of the collection whose index text the bytes are.
use Rattle.std.proofs.lemmas.Result.{IfErr-at_err, IfErr-weaker, IfOk-at_ok, IfOk-weaker}
use Rattle.ix_c.specs.Searching.{RefusesSearching}
use Rattle.ix_c.proofs.SearchLemmas.{given_err, given_ok, refuses_searching, unopened}
use Rattle.ix_c.proofs.searching.search_in.Goals as goal

pub returns-in-Ok-clause-found : goal.returns-in-Ok-clause-found
returns-in-Ok-clause-found c =
    let version = c.in-Ok.index.version in
    let (collection, index, spelled) = IfOk-at_ok _ c.in-Ok.is (given_ok _ c.open.result _ c.index_or_refusal.ensures c.open.ensures.found) in
    IfOk-weaker c.find_in.result _ _ (λ names found. record { version = version; collection = collection; spelled = spelled; found = found version collection index }) c.find_in.ensures.found

pub returns-in-Ok-clause-refused : goal.returns-in-Ok-clause-refused
returns-in-Ok-clause-refused c =
    let version = c.in-Ok.index.version in
    let (collection, index, spelled) = IfOk-at_ok _ c.in-Ok.is (given_ok _ c.open.result _ c.index_or_refusal.ensures c.open.ensures.found) in
    IfErr-weaker c.find_in.result _ _ (λ reason refuses. refuses_searching c.args.index.now c.args.query.now version collection spelled reason (refuses version collection index)) c.find_in.ensures.refused

pub returns-in-Err-clause-refused : goal.returns-in-Err-clause-refused
returns-in-Err-clause-refused c =
    let index = c.args.index.now in
    IfErr-at_err (RefusesSearching index c.args.query.now) c.in-Err.is (given_err _ c.open.result _ c.index_or_refusal.ensures (unopened index _ c.open.result c.open.ensures.exact))
