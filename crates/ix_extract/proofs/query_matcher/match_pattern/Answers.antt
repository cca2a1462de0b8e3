use Rattle.ix_extract.proofs.SoughtLemmas.{matches_front}
use Rattle.ix_extract.proofs.query_matcher.match_pattern.Goals as goal

pub returns-clause-wanted : goal.returns-clause-wanted
returns-clause-wanted c = λ term. (
  λ wanted. ((c.new.ensures.wanted term).0 wanted).1,
  λ matches. (c.new.ensures.wanted term).1 (matches_front c.front.result.now term c.front.ensures.0 c.args.pattern.now c.front.ensures.1 matches, matches),
)
