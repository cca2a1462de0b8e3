use Rattle.std.proofs.Common.{ℕ, sym, ◌∙◌, inl, inr, ⊎_elim, arith}
use Rattle.std.specs.Prelude.{Option, Some, None, IfNone}
use Rattle.std.proofs.lemmas.Option.{same_Some}
use Rattle.ix_board.proofs.tour.Tour.next_place.Goals as goal

pub returns-then-place-self-clause-passes : goal.returns-then-place-self-clause-passes
returns-then-place-self-clause-passes c = λ j h p.
    let first = c.in-Some.ensures in
    let second = c.pass-then-place-self.ensures in
    ⊎_elim
    (λ now. inl now)
    (λ before.
    ⊎_elim
    (λ place. inr (inl (sym (same_Some c.in-Some.place j place) ∙ (c.if-place-self.true ∙ first.same.1))))
    (λ old. inr (inr old))
    (first.passes j h before))
    (second.passes j (let e = first.same.0 in omega arith) p)

pub returns-in_default-clause-passes : goal.returns-in_default-clause-passes
returns-in_default-clause-passes c = λ j h p. ⊎_elim (λ e. inl e) (λ old. inr (inr old)) (c.in_default.ensures.passes j h p)

none_then : (r : Option ℕ) (P Q : Type 0) → (P → Q) → IfNone r P → IfNone r Q
none_then None P Q f p = f p
none_then (Some k) P Q f p = p

pub returns-then-place-self-clause-none : goal.returns-then-place-self-clause-none
returns-then-place-self-clause-none c =
    none_then c.pass-then-place-self.result _ _ (λ each j h. each j (let e = c.in-Some.ensures.same.0 in omega arith)) c.pass-then-place-self.ensures.none

pub returns-else-place-self-clause-passes : goal.returns-else-place-self-clause-passes
returns-else-place-self-clause-passes c = λ j h p. ⊎_elim (λ e. inl e) (λ old. inr (inr old)) (c.in-Some.ensures.passes j h p)
