use Rattle.ix_text.specs.Parts.{terms_of}
use Rattle.ix_gram.proofs.FrontLemmas.{begins_between}
use Rattle.ix_gram.proofs.range.terms_from.Goals as goal

pub returns-clause-exact : goal.returns-clause-exact
returns-clause-exact c number term at =
    let low = c.bound.ensures in
    let high = c.bound-2.ensures in
    begins_between (terms_of c.args.index.now.parts.entries) c.args.text.now c.bound.result c.bound-2.result number term
    (low.before number term at) (low.behind number term at) (high.before number term at) (high.behind number term at)
