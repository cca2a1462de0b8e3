use Rattle.std.proofs.Common.{arith}
use Rattle.std.proofs.lemmas.Bool.{iff_false}
use Rattle.ix_query.proofs.ClosePositions.{near_candidate, near_both, both_first}
use Rattle.ix_query.proofs.SiftLemmas.{sifted_more, sifted_found, sifted_ended}
use Rattle.ix_query.proofs.answers.near.first_near.Goals as goal

pub returns-in_default : goal.returns-in_default
returns-in_default c =
    sifted_ended _ _ _ _ _ c.loop-document.invariant
    (λ n place near far. c.in_default.ensures.reached.found n place ((c.in_default.ensures.reached.kept n place).1 (near_both _ _ _ n near, far)))
    (λ n place near. c.in_default.ensures.reached.found n place (near_both _ _ _ n near))

pub returns-then-stand_near : goal.returns-then-stand_near
returns-then-stand_near c =
    let first = both_first _ _ _ _ _ _ c.in-Some.ensures.reached c.in-Some.ensures.met in
    sifted_found _ _ _ _ _ _ c.loop-document.invariant (near_candidate _ _ _ _ c.args.distance _ _ c.in-Some.ensures.reached c.in-Some.ensures.met)
    (0, (c.stand_near.ensures c.in-Some.document first.0 first.1).0 c.if-stand_near.true)

pub loop-document-smaller : goal.loop-document-smaller
loop-document-smaller c =
    let candidate = near_candidate _ _ _ _ c.args.distance _ _ c.in-Some.ensures.reached c.in-Some.ensures.met in
    let above = candidate.above in let below = candidate.below in omega arith

pub loop-document-preserved : goal.loop-document-preserved
loop-document-preserved c =
    let first = both_first _ _ _ _ _ _ c.in-Some.ensures.reached c.in-Some.ensures.met in
    sifted_more _ _ _ _ _ _ c.loop-document.invariant (near_candidate _ _ _ _ c.args.distance _ _ c.in-Some.ensures.reached c.in-Some.ensures.met)
    (λ (place, near). iff_false (c.stand_near.ensures c.in-Some.document first.0 first.1) c.if-stand_near.false near)
