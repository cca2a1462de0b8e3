use Rattle.std.proofs.Common.{ℕ, ◌+◌, Option, set, sym, subst, arith, ◌<◌, length}
use Rattle.ix_lookup.proofs.MatcherLemmas.{HasStepped, steps, kept_set}
use Rattle.ix_lookup.proofs.any_of.step_all.Goals as goal

pub loop-place-preserved : goal.loop-place-preserved
loop-place-preserved g c =
    let old = c.args.matchers.now.items in
    let now = c.loop-place.matchers.items in
    let within : c.loop-place.place < length now = omega (arith, c.len-place-end.ensures, c.loop-place.invariant.kept.count) in
    subst (λ (found : Option ℕ). HasStepped g.M.TermMatcher.wants g.M.TermMatcher.is_at c.args.shared c.args.own.now old (set now c.loop-place.place c.step.new.self) (c.loop-place.place + 1) found) (sym c.latest-found.ensures)
    (steps g.M.TermMatcher.wants g.M.TermMatcher.is_at c.args.shared c.args.own.now old now c.loop-place.place c.loop-place.found c.index_mut.result.now c.step.new.self c.in_ok-is_found.is_found c.loop-place.invariant within c.index_mut.ensures.value c.in_ok-is_found.ensures.same c.in_ok-is_found.ensures.moved c.in_ok-is_found.ensures.answered)

pub returns-in_err-is_found-clause-same : goal.returns-in_err-is_found-clause-same
returns-in_err-is_found-clause-same g c =
    let now = c.loop-place.matchers.items in
    let within : c.loop-place.place < length now = omega (arith, c.len-place-end.ensures, c.loop-place.invariant.kept.count) in
    kept_set g.M.TermMatcher.wants g.M.TermMatcher.is_at c.args.matchers.now.items now c.loop-place.place c.index_mut.result.now c.step.new.self c.loop-place.invariant.kept within c.index_mut.ensures.value c.in_err-is_found.ensures.same
