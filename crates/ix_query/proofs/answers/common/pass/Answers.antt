use Rattle.std.proofs.Common.{◌≡◌, ℕ, Some, refl, ap, arith}
use Rattle.std.proofs.lemmas.Option.{slice_get-get_or}
use Rattle.ix_query.proofs.PassLemmas.{passed_more, passed_stops, passed_ends, pass_met, reached_low}
use Rattle.ix_query.proofs.answers.common.pass.Goals as goal

pub returns-in_default-clause-ended : goal.returns-in_default-clause-ended
returns-in_default-clause-ended g c =
    passed_ends g.N.Numbers.has _ _ _ _ _ c.seek.new.self _ c.loop-list.invariant (omega arith)
    (slice_get-get_or c.loop-list.lists c.loop-list.list-index c.list-item.result (omega arith)) c.in_default.ensures refl

pub returns-then-found-number-clause-passed : goal.returns-then-found-number-clause-passed
returns-then-found-number-clause-passed g c =
    passed_stops g.N.Numbers.has _ _ _ _ _ c.seek.new.self _ c.in-Some.found c.loop-list.invariant (omega arith)
    (slice_get-get_or c.loop-list.lists c.loop-list.list-index c.list-item.result (omega arith)) c.in-Some.ensures refl c.if-found-number.true

pub loop-list-preserved : goal.loop-list-preserved
loop-list-preserved g c =
    passed_more g.N.Numbers.has _ _ _ _ _ c.seek.new.self (Some c.in-Some.found) c.loop-list.invariant (omega arith)
    (slice_get-get_or c.loop-list.lists c.loop-list.list-index c.list-item.result (omega arith)) c.in-Some.ensures (let first = c.in-Some.ensures.found in let low = reached_low _ _ _ _ c.in-Some.ensures in let same : c.in-Some.found ≡ c.args.number = omega arith in ap (λ (n : ℕ). Some n) same)

pub returns-clause-passed : goal.returns-clause-passed
returns-clause-passed g c = pass_met g.N.Numbers.has _ _ _ c.loop-list.list-index (omega arith) c.loop-list.invariant
