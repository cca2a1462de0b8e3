-- What the opened index tells is of the collection that the index text stands for.
use Rattle.std.proofs.Common.{sym, subst}
use Rattle.std.proofs.lemmas.Result.{IfOk-weaker}
use Rattle.ix_file.specs.Opened.{IsIndexOf, Opened}
use Rattle.ix_c.proofs.opened.list_opened.Goals as goal

pub returns-clause-listed : goal.returns-clause-listed
returns-clause-listed c =
    IfOk-weaker c.match_in.result _ _ (λ rows listed. λ text opening. record {
      version = opening.version;
      collection = opening.collection;
      spelled = opening.spelled;
      listed = listed opening.version opening.collection (subst (λ (o : Opened). IsIndexOf o opening.version opening.collection) (sym c.index-index.ensures) opening.index);
    }) c.match_in.ensures.listed
