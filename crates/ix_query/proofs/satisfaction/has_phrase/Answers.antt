use Rattle.std.proofs.Common.{refl, below_more}
use Rattle.std.proofs.lemmas.Bool.{iff_false}
use Rattle.ix_query.proofs.PositionLemmas.{phrase_from, no_phrase}
use Rattle.ix_query.proofs.satisfaction.has_phrase.Goals as goal

pub returns-then-begins_with : goal.returns-then-begins_with
returns-then-begins_with c =
    (λ _. (c.loop-start.start, (phrase_from _ c.args.tokens.now c.loop-start.start c.args.parts.now).0 (c.begins_with.ensures.0 c.if-begins_with.true)), λ _. refl)

pub loop-start-preserved : goal.loop-start-preserved
loop-start-preserved c =
    below_more _ _ c.loop-start.invariant
    (λ h. iff_false c.begins_with.ensures c.if-begins_with.false ((phrase_from _ c.args.tokens.now c.loop-start.start c.args.parts.now).1 h))

pub returns : goal.returns
returns c = (λ e. absurd (cc), λ h. absurd (no_phrase _ c.args.tokens.now c.args.parts.now _ c.loop-start-test.false c.loop-start.invariant h))
