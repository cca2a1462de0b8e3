use Rattle.std.proofs.Common.{◌≡◌, ℕ, ◌<◌, ap, sym, subst, ◌∙◌, refl, inl, inr, ⊎_elim, arith}
use Rattle.std.specs.Prelude.{Option, Some, None}
use Rattle.std.proofs.lemmas.Option.{none-some, same_Some}
use Rattle.ix_board.specs.declared.step.Step.TheVariants.{Claim, Look}
use Rattle.ix_board.specs.Desks.{DeskView, HasSeenAll, place_held}
use Rattle.ix_board.specs.DeskFields.{IsSoundDesk}
use Rattle.ix_board.proofs.DeskSteps.{sound_after, sound_past_own, held_is_told}
use Rattle.ix_board.proofs.desk.Desk.attempt.Goals as goal

pub invariant_of-self : goal.invariant_of-self
invariant_of-self g c =
    let told = c.in_default.ensures in
    sound_past_own c.self.inside c.next_place.new.self c.self.invariant (told.same.0, told.same.1) told.same.2 (λ k h p. ⊎_elim (λ e. absurd (none-some k e)) (λ rest. rest) (told.passes k h p))

pub returns-in_default-clause-attempt : goal.returns-in_default-clause-attempt
returns-in_default-clause-attempt g c =
    let told = c.in_default.ensures in
    let d = c.self.inside in
    let sound =
    sound_past_own d c.next_place.new.self c.self.invariant (told.same.0, told.same.1) told.same.2 (λ k h p. ⊎_elim (λ e. absurd (none-some k e)) (λ rest. rest) (told.passes k h p)) in
    let fits : d.tour.count ≡ d.seat.me.0.count = c.self.invariant.tour_fits.0 in
    (c.self.view_is, subst HasSeenAll c.self.view_is (λ k h. sound.passed k h (told.none k (omega arith))))

pub invariant_of-self-then-try_place : goal.invariant_of-self-then-try_place
invariant_of-self-then-try_place g c =
    let told = c.in-Some.ensures in
    let place = c.in-Some.place in
    let tried = c.if-try_place.ensures in
    sound_after c.self.inside c.try_place.new.seat (Some place) c.next_place.new.self (Claim place) c.args.board.now (ap (λ (d : DeskView _). d.board) c.self.view_is ∙ c.requires.board) c.self.invariant
    tried.table tried.tried refl (λ k e. let s : place ≡ k = same_Some place k e in let h : place < c.self.inside.tour.count = told.some.0 in omega arith) (told.same.0, told.same.1)
    (λ k h p. ⊎_elim (λ e. inr (inr (inr (ap (λ (j : ℕ). Claim j) (same_Some place k e))))) (λ rest. ⊎_elim (λ own. inr (inl own)) (λ old. inl old) rest) (told.passes k h p)) (omega (arith, told.some.1))

pub invariant_of-self-else-try_place : goal.invariant_of-self-else-try_place
invariant_of-self-else-try_place g c =
    let told = c.in-Some.ensures in
    let place = c.in-Some.place in
    let tried = c.if-try_place.ensures in
    let d = c.self.inside in
    let sound = c.self.invariant in
    let none : d.held ≡ None = sym (held_is_told d sound) ∙ (ap place_held c.self.view_is ∙ c.requires.free) in
    let H : Option ℕ → Type 0 = λ h. IsSoundDesk (record { seat = c.try_place.new.seat; number = d.number; held = h; tour = c.next_place.new.self; room = d.room }) in
    subst H (sym none) (
    sound_after d c.try_place.new.seat None c.next_place.new.self (Look place) c.args.board.now (ap (λ (e : DeskView _). e.board) c.self.view_is ∙ c.requires.board) sound
    tried.table tried.tried (sym none) (λ k e. absurd (none-some k e)) (told.same.0, told.same.1)
    (λ k h p. ⊎_elim (λ e. inr (inr (inl (ap (λ (j : ℕ). Look j) (same_Some place k e))))) (λ rest. ⊎_elim (λ own. inr (inl own)) (λ old. inl old) rest) (told.passes k h p)) (omega (arith, told.some.1)))
