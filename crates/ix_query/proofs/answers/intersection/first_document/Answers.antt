use Rattle.std.proofs.Common.{arith}
use Rattle.std.proofs.lemmas.Bool.{iff_false}
use Rattle.ix_query.proofs.IntersectionLemmas.{meet_candidate, one_same}
use Rattle.ix_query.proofs.SiftLemmas.{sifted_more, sifted_found, sifted_ended}
use Rattle.ix_query.proofs.answers.intersection.first_document.Goals as goal

pub returns-in_default : goal.returns-in_default
returns-in_default c =
    sifted_ended _ _ _ _ _ c.loop-document.invariant
    (λ n place meet far. c.in_default.ensures.reached.found n place ((c.in_default.ensures.reached.kept n place).1 (meet.0, far)))
    (λ n place meet. c.in_default.ensures.reached.found n place meet.0)

pub returns-then-not-is_in_one : goal.returns-then-not-is_in_one
returns-then-not-is_in_one c =
    let (p, has) = c.in-Some.ensures.reached.found.holds in
    sifted_found _ _ _ _ _ _ c.loop-document.invariant (meet_candidate _ _ _ _ _ _ _ _ c.common.auto.others c.is_in_one.auto.lists c.in-Some.ensures.reached c.in-Some.ensures.met c.is_in_one.ensures.kept)
    (0, (has, λ one. iff_false c.is_in_one.ensures.found c.if-not-is_in_one.true ((one_same _ _ _ c.in-Some.document c.is_in_one.auto.lists c.is_in_one.ensures.kept (omega arith)).0 one)))

pub loop-document-smaller : goal.loop-document-smaller
loop-document-smaller c =
    let candidate = meet_candidate _ _ _ _ _ _ _ _ c.common.auto.others c.is_in_one.auto.lists c.in-Some.ensures.reached c.in-Some.ensures.met c.is_in_one.ensures.kept in
    let above = candidate.above in let below = candidate.below in omega arith

pub loop-document-preserved : goal.loop-document-preserved
loop-document-preserved c =
    sifted_more _ _ _ _ _ _ c.loop-document.invariant (meet_candidate _ _ _ _ _ _ _ _ c.common.auto.others c.is_in_one.auto.lists c.in-Some.ensures.reached c.in-Some.ensures.met c.is_in_one.ensures.kept)
    (λ (place, meet). meet.1 ((one_same _ _ _ c.in-Some.document c.is_in_one.auto.lists c.is_in_one.ensures.kept (omega arith)).1 (c.is_in_one.ensures.found.0 c.if-not-is_in_one.false)))
