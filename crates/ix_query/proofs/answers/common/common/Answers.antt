use Rattle.std.proofs.Common.{ℕ, subst}
use Rattle.ix_query.specs.Streams.{IsPass}
use Rattle.ix_query.proofs.PassLemmas.{narrowed_more, common_met, common_ended, others_ended}
use Rattle.ix_query.proofs.answers.common.common.Goals as goal

pub returns-in_default-clause-reached : goal.returns-in_default-clause-reached
returns-in_default-clause-reached g c = common_ended g.N.Numbers.has _ _ _ _ _ _ _ c.loop-number.invariant c.in_default.ensures

pub returns-in_default-pass-clause-reached : goal.returns-in_default-pass-clause-reached
returns-in_default-pass-clause-reached g c = others_ended g.N.Numbers.has _ _ _ _ _ _ _ _ _ c.loop-number.invariant c.in-Some.ensures c.in_default-pass.ensures.ended

pub returns-then-high-number-clause-reached : goal.returns-then-high-number-clause-reached
returns-then-high-number-clause-reached g c =
    let pass = subst (λ (n : ℕ). IsPass g.N.Numbers.has c.loop-number.others c.pass.new.lists c.in-Some.number n) c.if-high-number.true c.in-Some-pass.ensures.passed in
    (common_met g.N.Numbers.has _ _ _ _ _ _ _ _ _ c.loop-number.invariant c.in-Some.ensures pass c.pass.auto.lists).0

pub returns-then-high-number-clause-met : goal.returns-then-high-number-clause-met
returns-then-high-number-clause-met g c =
    let pass = subst (λ (n : ℕ). IsPass g.N.Numbers.has c.loop-number.others c.pass.new.lists c.in-Some.number n) c.if-high-number.true c.in-Some-pass.ensures.passed in
    (common_met g.N.Numbers.has _ _ _ _ _ _ _ _ _ c.loop-number.invariant c.in-Some.ensures pass c.pass.auto.lists).1

pub loop-number-preserved : goal.loop-number-preserved
loop-number-preserved g c = narrowed_more g.N.Numbers.has _ _ _ _ _ _ _ _ _ _ c.loop-number.invariant c.in-Some.ensures c.in-Some-pass.ensures.passed c.pass.auto.lists
