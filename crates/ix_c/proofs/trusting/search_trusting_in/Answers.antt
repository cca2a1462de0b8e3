-- The bytes are a source that tells them.
use Rattle.std.proofs.Common.{◌∙◌, ap, refl, subst}
use Rattle.ix_ask.specs.Searching.{RefusesQuery}
use Rattle.ix_ask.specs.Trusting.{RefusesTrusting}
use Rattle.ix_ask.specs.declared.trust_error.TrustError.TheVariants.{Ask}
use Rattle.ix_c.proofs.trusting.search_trusting_in.Goals as goal

pub returns-in-Ok-clause-found : goal.returns-in-Ok-clause-found
returns-in-Ok-clause-found c = record {
  exact = λ version collection spelled. c.in-Ok.ensures.found version collection (record { bytes = c.args.index.now; known = refl; text = spelled });
  some = c.in-Ok.ensures.lawful;
}

pub returns-in-Err-Ask-Query-clause-refused : goal.returns-in-Err-Ask-Query-clause-refused
returns-in-Err-Ask-Query-clause-refused c = λ version collection spelled.
    subst (RefusesTrusting (RefusesQuery collection c.args.query.now)) (c.in-Err-Ask-Query.field-0-is ∙ ap Ask c.in-Err-Ask-Query.field-0-0-is)
    (c.in-Err-Ask-Query.ensures.refused version collection (record { bytes = c.args.index.now; known = refl; text = spelled }))

pub returns-in-Err-Ask-Open-clause-refused : goal.returns-in-Err-Ask-Open-clause-refused
returns-in-Err-Ask-Open-clause-refused c = λ version collection spelled.
    subst (RefusesTrusting (RefusesQuery collection c.args.query.now)) (c.in-Err-Ask-Open.field-0-is ∙ ap Ask c.in-Err-Ask-Open.field-0-0-is)
    (c.in-Err-Ask-Open.ensures.refused version collection (record { bytes = c.args.index.now; known = refl; text = spelled }))
