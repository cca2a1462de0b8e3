-- What the opened index tells is of the collection that the index text stands for.
use Rattle.std.proofs.Common.{sym, subst}
use Rattle.std.proofs.lemmas.Result.{IfErr-weaker, IfOk-weaker}
use Rattle.ix_file.specs.Opened.{IsIndexOf, Opened}
use Rattle.ix_c.proofs.SearchLemmas.{refuses_searching}
use Rattle.ix_c.proofs.opened.search_opened.Goals as goal

pub returns-clause-found : goal.returns-clause-found
returns-clause-found c =
    IfOk-weaker c.find_in.result _ _ (λ names found. λ text opening. record {
      version = opening.version;
      collection = opening.collection;
      spelled = opening.spelled;
      found = found opening.version opening.collection (subst (λ (o : Opened). IsIndexOf o opening.version opening.collection) (sym c.index-index.ensures) opening.index);
    }) c.find_in.ensures.found

pub returns-clause-refused : goal.returns-clause-refused
returns-clause-refused c =
    IfErr-weaker c.find_in.result _ _ (λ reason refuses. λ text opening.
    refuses_searching text c.args.query.now opening.version opening.collection opening.spelled reason
    (refuses opening.version opening.collection (subst (λ (o : Opened). IsIndexOf o opening.version opening.collection) (sym c.index-index.ensures) opening.index))) c.find_in.ensures.refused
