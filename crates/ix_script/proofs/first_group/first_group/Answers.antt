-- Up to the first step that publishes none does.
use Rattle.std.proofs.Common.{◌∙◌, ◌+◌, ◌-◌, ap, arith, drop, length, length-drop, length-take, refl, sym, add-one}
use Rattle.std.proofs.lemmas.List.{take_all}
use Rattle.ix_script.specs.Groups.{is_publish}
use Rattle.ix_script.specs.Steps.{step_of}
use Rattle.ix_script.proofs.GroupLemmas.{cut_here, one_more}
use Rattle.ix_script.proofs.first_group.first_group.Goals as goal

pub returns-then-is_publish-clause-cut : goal.returns-then-is_publish-clause-cut
returns-then-is_publish-clause-cut c =
    let steps = c.args.steps.now in
    let place = c.loop-place.place in
    let is = ap (λ s. is_publish (step_of s)) (sym c.index-steps-place.is) ∙ sym c.is_publish.ensures ∙ c.if-is_publish.true in
    let here = cut_here steps place c.index-steps-place.result c.loop-place-test.true is in
    let rest = take_all (length steps - (place + 1)) (drop (place + 1) steps) (omega (arith, length-drop (place + 1) steps)) in
    (rw (rest, add-one) here, c.loop-place.invariant.quiet)

pub loop-place-preserved : goal.loop-place-preserved
loop-place-preserved c =
    let quiet = ap (λ s. is_publish (step_of s)) (sym c.index-steps-place.is) ∙ sym c.is_publish.ensures ∙ c.if-is_publish.false in
    record {
      within = omega arith;
      quiet = rw add-one (one_more c.args.steps.now c.loop-place.place c.index-steps-place.result c.loop-place-test.true c.loop-place.invariant.quiet quiet);
    }

pub returns-clause-cut : goal.returns-clause-cut
returns-clause-cut c =
    let all = take_all c.loop-place.place c.args.steps.now c.loop-place-test.false in
    (refl, rw all at c.loop-place.invariant.quiet)

pub returns-then-is_publish-clause-shorter : goal.returns-then-is_publish-clause-shorter
returns-then-is_publish-clause-shorter c =
    let steps = c.args.steps.now in
    let place = c.loop-place.place in
    omega (arith, length-take (length steps - (place + 1)) (drop (place + 1) steps), length-drop (place + 1) steps)
