use Rattle.std.proofs.Common.{◌-◌, ◌^◌, ℕ, List, sym, ap, subst, ◌∙◌}
use Rattle.ix_file.specs.Gaps.{Ascends}
use Rattle.ix_query.specs.Streams.{from_number}
use Rattle.ix_query.proofs.StreamLemmas.{ascends_from, reaches_number, first_at_hand}
use Rattle.ix_query.proofs.answers.word.WordNumbers.seek.Goals as goal

pub invariant_of-self : goal.invariant_of-self
invariant_of-self c = subst (λ (ns : List ℕ). Ascends 0 (2 ^ 32 - 1) ns) (sym c.advance-self-inside.ensures.passed) (ascends_from c.args.low 0 (2 ^ 32 - 1) _ c.self.invariant)

pub returns : goal.returns
returns c =
    reaches_number 0 c.args.low c.args.self.now _ _ (subst (λ (ns : List ℕ). Ascends 0 (2 ^ 32 - 1) ns) c.self.view_is c.self.invariant)
    (c.advance-self-inside.ensures.passed ∙ ap (from_number c.args.low) c.self.view_is)
    (first_at_hand _ _ c.advance-self-inside.ensures.ended)
