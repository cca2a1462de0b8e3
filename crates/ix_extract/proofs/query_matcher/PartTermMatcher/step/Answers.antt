use Rattle.ix_extract.specs.declared.query_matcher.Part.TheVariants.{Pattern, Words}
use Rattle.ix_extract.proofs.SoughtLemmas.{steps_of, wanted_of}
use Rattle.ix_extract.proofs.query_matcher.PartTermMatcher.step.Goals as goal

pub returns-in-Words-clause-same : goal.returns-in-Words-clause-same
returns-in-Words-clause-same c = wanted_of (Words c.in-Words.words) c.args.self.now _ c.in-Words.is c.step.ensures.same

pub returns-in-Words-clause-answered : goal.returns-in-Words-clause-answered
returns-in-Words-clause-answered c = steps_of c.args.shared c.args.own.now c.step.result (Words c.in-Words.words) c.args.self.now c.in-Words.is c.step.ensures.answered

pub returns-in-Pattern-clause-same : goal.returns-in-Pattern-clause-same
returns-in-Pattern-clause-same c = wanted_of (Pattern c.in-Pattern.pattern) c.args.self.now _ c.in-Pattern.is c.step-in-Pattern.ensures.same

pub returns-in-Pattern-clause-answered : goal.returns-in-Pattern-clause-answered
returns-in-Pattern-clause-answered c =
    steps_of c.args.shared c.args.own.now c.step-in-Pattern.result (Pattern c.in-Pattern.pattern) c.args.self.now c.in-Pattern.is c.step-in-Pattern.ensures.answered
