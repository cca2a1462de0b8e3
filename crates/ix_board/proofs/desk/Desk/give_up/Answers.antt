use Rattle.std.proofs.Common.{ap, ◌∙◌, refl, inl, arith}
use Rattle.std.specs.Prelude.{None}
use Rattle.std.proofs.lemmas.Option.{none-some}
use Rattle.ix_board.specs.declared.step.Step.TheVariants.{GiveUp}
use Rattle.ix_board.specs.Desks.{DeskView}
use Rattle.ix_board.proofs.DeskSteps.{sound_after, held_is_told}
use Rattle.ix_board.proofs.desk.Desk.give_up.Goals as goal

pub invariant_of-self : goal.invariant_of-self
invariant_of-self g c =
    let done = c.leave_place.ensures in
    sound_after c.self.inside c.leave_place.new.seat None c.self.inside.tour (GiveUp c.in-Some.place) c.args.board.now (ap (λ (d : DeskView _). d.board) c.self.view_is ∙ c.requires.board) c.self.invariant
    done.table done.left refl (λ k e. absurd (none-some k e)) (refl, refl) (λ k h p. inl p) (omega arith)

pub returns-clause-free : goal.returns-clause-free
returns-clause-free g c =
    let done = c.leave_place.ensures in
    held_is_told _ (
    sound_after c.self.inside c.leave_place.new.seat None c.self.inside.tour (GiveUp c.in-Some.place) c.args.board.now (ap (λ (d : DeskView _). d.board) c.self.view_is ∙ c.requires.board) c.self.invariant
    done.table done.left refl (λ k e. absurd (none-some k e)) (refl, refl) (λ k h p. inl p) (omega arith))
