-- An index text has one collection, and this one list.
use Rattle.std.proofs.Common.{List, ℕ, sym, subst}
use Rattle.ix_text.specs.Collections.{Collection}
use Rattle.ix_ask.specs.Listing.{IsListed}
use Rattle.ix_ask.specs.Searching.{IsFound}
use Rattle.ix_ask.proofs.OneAnswer.{one_found, one_listed}
use Rattle.ix_ask.proofs.laws.both_ways_give_one_list.Goals as goal

pub returns-clause-found : goal.returns-clause-found
returns-clause-found c = λ version another collection other bytes query lines others count number spelled again found anew.
    let same = (c.index_text_tells_version_and_collection.ensures version another collection other bytes spelled again).1 in
    one_found c.a_text_has_one_tree.ensures c.a_query_has_one_scan.ensures collection query lines others count number found
    (subst (λ (one : Collection). IsFound one query others number) (sym same) anew)

pub returns-clause-listed : goal.returns-clause-listed
returns-clause-listed c = λ version another collection other bytes pattern lines others count number spelled again listed anew.
    let same = (c.index_text_tells_version_and_collection.ensures version another collection other bytes spelled again).1 in
    one_listed collection pattern lines others count number listed (subst (λ (one : Collection). IsListed one pattern others number) (sym same) anew)
