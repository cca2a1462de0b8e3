use Rattle.std.proofs.Common.{ap, length, arith}
use Rattle.ix_run.specs.Runs.{IsShort, TermValue, term_shown}
use Rattle.ix_run.proofs.HeldTermLemmas.{all_put, front_put, next_is, none_put, one_more_put}
use Rattle.ix_run.proofs.Writing.{writes_refused}
use Rattle.ix_run.proofs.write.put_terms.Goals as goal

pub loop-term-init : goal.loop-term-init
loop-term-init g c = none_put _ _ _ c.walk-walk.ensures

pub put_term-requires-clause-term : goal.put_term-requires-clause-term
put_term-requires-clause-term g c = next_is (λ (value : TermValue). IsShort value.term) _ _ _ _ _ (term_shown c.in-Some.term) c.requires.terms c.loop-term.invariant c.in-Some.ensures

pub put_term-requires-clause-list : goal.put_term-requires-clause-list
put_term-requires-clause-list g c = next_is (λ (value : TermValue). IsShort value.list) _ _ _ _ _ (term_shown c.in-Some.term) c.requires.lists c.loop-term.invariant c.in-Some.ensures

pub returns-in_err-put_term : goal.returns-in_err-put_term
returns-in_err-put_term g c =
    writes_refused _ _ _ _ c.from_residual.ensures.0
    (front_put _ _ _ _ _ _ _ c.loop-term.invariant c.in-Some.ensures c.in_err-put_term.ensures)

pub loop-term-preserved : goal.loop-term-preserved
loop-term-preserved g c = one_more_put _ _ _ _ _ _ _ c.loop-term.invariant c.in-Some.ensures c.in_ok-put_term.ensures

pub loop-term-smaller : goal.loop-term-smaller
loop-term-smaller g c = omega (arith, ap length c.in-Some.ensures)

pub returns : goal.returns
returns g c = all_put _ _ _ _ c.loop-term.invariant c.in_default.ensures.0
