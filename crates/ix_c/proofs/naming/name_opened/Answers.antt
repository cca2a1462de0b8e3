-- What the opened index tells is of the collection that the index text stands for.
use Rattle.std.proofs.Common.{sym, subst}
use Rattle.ix_file.specs.Opened.{IsIndexOf, Opened}
use Rattle.ix_c.proofs.naming.name_opened.Goals as goal

pub returns-in-Ok-clause-named : goal.returns-in-Ok-clause-named
returns-in-Ok-clause-named c = λ text opening. record {
  version = opening.version;
  collection = opening.collection;
  spelled = opening.spelled;
  names = c.in-Ok.ensures opening.version opening.collection (subst (λ (o : Opened). IsIndexOf o opening.version opening.collection) (sym c.index-index.ensures) opening.index);
}
