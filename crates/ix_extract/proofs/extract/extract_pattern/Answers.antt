use Rattle.std.proofs.lemmas.Result.{IfOk-weaker}
use Rattle.ix_gram.specs.Patterns.{Matches}
use Rattle.ix_extract.proofs.Projecting.{wants_fewer}
use Rattle.ix_extract.proofs.extract.extract_pattern.Goals as goal

pub returns-clause-extracted : goal.returns-clause-extracted
returns-clause-extracted g c = λ version collection has.
    IfOk-weaker c.extract.result _ _
    (λ text is. wants_fewer collection _ (λ term. Matches term c.args.pattern.now) text.items (λ term matches. (c.match_pattern-matcher.ensures.wanted term).1 matches) is)
    (c.extract.ensures.extracted version collection has)
