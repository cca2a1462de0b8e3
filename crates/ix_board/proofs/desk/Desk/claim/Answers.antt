use Rattle.std.proofs.Common.{ap, sym, subst, ◌∙◌}
use Rattle.ix_board.specs.declared.step.Step.TheVariants.{Claim, Look}
use Rattle.ix_board.specs.Desks.{DeskView, HasSeenAll, LooksOnly}
use Rattle.ix_board.proofs.DeskSteps.{looks_short, claims_short, looks_more, looks_then_claims, held_after_step}
use Rattle.ix_board.proofs.desk.Desk.claim.Goals as goal

pub returns-in-Claimed-clause-held : goal.returns-in-Claimed-clause-held
returns-in-Claimed-clause-held g c = held_after_step c.loop-place.self c.attempt.new.self (Claim c.in-Claimed.place) c.in-Claimed.ensures.attempt.1

pub returns-in-Claimed-clause-few_steps : goal.returns-in-Claimed-clause-few_steps
returns-in-Claimed-clause-few_steps g c =
    claims_short c.args.self.now c.attempt.new.self c.in-Claimed.place c.args.board.now.count
    (looks_then_claims c.args.self.now c.loop-place.self c.attempt.new.self c.in-Claimed.place c.loop-place.invariant.0 c.in-Claimed.ensures.attempt.1) c.in-Claimed.ensures.few_tries

pub loop-place-preserved : goal.loop-place-preserved
loop-place-preserved g c =
    let looked = c.in-Taken.ensures.attempt in (
      looks_more c.args.self.now c.loop-place.self c.attempt.new.self c.in-Taken.field-0 c.loop-place.invariant.0 looked,
      held_after_step c.loop-place.self c.attempt.new.self (Look c.in-Taken.field-0) looked ∙ c.loop-place.invariant.1,
      ap (λ (d : DeskView _). d.board) looked ∙ c.loop-place.invariant.2,
    )

pub returns-in-Done-clause-none : goal.returns-in-Done-clause-none
returns-in-Done-clause-none g c =
    let done = c.in-Done.ensures.attempt in
    (subst (LooksOnly c.args.self.now) (sym done.0) c.loop-place.invariant.0, subst HasSeenAll (sym done.0) done.1)

pub returns-in-Done-clause-few_steps : goal.returns-in-Done-clause-few_steps
returns-in-Done-clause-few_steps g c =
    let done = c.in-Done.ensures.attempt in
    looks_short c.args.self.now c.attempt.new.self c.args.board.now.count (subst (LooksOnly c.args.self.now) (sym done.0) c.loop-place.invariant.0) c.in-Done.ensures.few_tries
