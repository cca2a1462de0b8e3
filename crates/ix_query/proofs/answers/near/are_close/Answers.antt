use Rattle.std.proofs.Common.{refl}
use Rattle.std.proofs.lemmas.Bool.{iff_false}
use Rattle.ix_query.proofs.ClosePositions.{close_found, closing_first, closing_second, ended_first, ended_second}
use Rattle.ix_query.proofs.answers.near.are_close.Goals as goal

pub returns-then-has_close : goal.returns-then-has_close
returns-then-has_close c = (λ _. close_found _ _ _ _ _ _ c.loop-first.invariant (c.has_close.ensures.0 c.if-has_close.true), λ _. refl)

pub returns-in_default-take_first-2 : goal.returns-in_default-take_first-2
returns-in_default-take_first-2 c =
    (λ wrong. absurd (cc), λ close. absurd (ended_first _ _ _ _ _ _ c.loop-first.invariant (iff_false c.has_close.ensures c.if-has_close.false) c.in_default-take_first-2.ensures c.if-one-other.true close))

pub loop-first-preserved-then-one-other : goal.loop-first-preserved-then-one-other
loop-first-preserved-then-one-other c =
    closing_first _ _ _ _ _ _ c.loop-first.invariant (iff_false c.has_close.ensures c.if-has_close.false) _ _ c.in-Some-take_first-2.ensures c.if-one-other.true

pub returns-in_default-take_first-3 : goal.returns-in_default-take_first-3
returns-in_default-take_first-3 c =
    (λ wrong. absurd (cc), λ close. absurd (ended_second _ _ _ _ _ _ c.loop-first.invariant (iff_false c.has_close.ensures c.if-has_close.false) c.in_default-take_first-3.ensures c.if-one-other.false close))

pub loop-first-preserved : goal.loop-first-preserved
loop-first-preserved c =
    closing_second _ _ _ _ _ _ c.loop-first.invariant (iff_false c.has_close.ensures c.if-has_close.false) _ _ c.in-Some-take_first-3.ensures c.if-one-other.false
