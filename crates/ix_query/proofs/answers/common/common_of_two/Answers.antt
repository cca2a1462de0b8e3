use Rattle.std.proofs.Common.{ℕ, [], ◌∷◌, refl, subst}
use Rattle.ix_query.specs.Streams.{IsPass}
use Rattle.ix_query.proofs.PassLemmas.{narrowed_more, common_met, common_ended, others_ended, pass_of_one, pass_of_one_ended}
use Rattle.ix_query.proofs.answers.common.common_of_two.Goals as goal

pub returns-in_default-clause-reached : goal.returns-in_default-clause-reached
returns-in_default-clause-reached g c = common_ended g.N.Numbers.has _ _ _ _ _ _ _ c.loop-number.invariant c.in_default.ensures

pub returns-in_default-seek-clause-reached : goal.returns-in_default-seek-clause-reached
returns-in_default-seek-clause-reached g c =
    others_ended g.N.Numbers.has _ _ _ _ _ _ _ _ _ c.loop-number.invariant c.in-Some.ensures (pass_of_one_ended g.N.Numbers.has _ c.seek-in-loop-number.new.self _ c.in_default-seek.ensures)

pub returns-then-high-number-clause-reached : goal.returns-then-high-number-clause-reached
returns-then-high-number-clause-reached g c =
    let pass = subst (λ (n : ℕ). IsPass g.N.Numbers.has (c.loop-number.second ∷ []) (c.seek-in-loop-number.new.self ∷ []) c.in-Some.number n) c.if-high-number.true (pass_of_one g.N.Numbers.has _ _ _ _ c.in-Some-seek.ensures) in
    (common_met g.N.Numbers.has _ _ _ _ _ _ _ _ _ c.loop-number.invariant c.in-Some.ensures pass refl).0

pub returns-then-high-number-clause-met : goal.returns-then-high-number-clause-met
returns-then-high-number-clause-met g c =
    let pass = subst (λ (n : ℕ). IsPass g.N.Numbers.has (c.loop-number.second ∷ []) (c.seek-in-loop-number.new.self ∷ []) c.in-Some.number n) c.if-high-number.true (pass_of_one g.N.Numbers.has _ _ _ _ c.in-Some-seek.ensures) in
    (common_met g.N.Numbers.has _ _ _ _ _ _ _ _ _ c.loop-number.invariant c.in-Some.ensures pass refl).1

pub loop-number-preserved : goal.loop-number-preserved
loop-number-preserved g c = narrowed_more g.N.Numbers.has _ _ _ _ _ _ _ _ _ _ c.loop-number.invariant c.in-Some.ensures (pass_of_one g.N.Numbers.has _ _ _ _ c.in-Some-seek.ensures) refl
