use Rattle.std.proofs.Common.{◌+◌, ◌-◌, ◌^◌, ◌++◌, ℕ, List, Option, Contains, option_to_list, sym, subst}
use Rattle.ix_file.specs.Gaps.{Ascends}
use Rattle.ix_query.specs.Streams.{Reaches}
use Rattle.ix_query.proofs.StreamLemmas.{ascends_from, reaches_start, first_at_hand}
use Rattle.ix_query.proofs.answers.start.StartNumbers.seek.Goals as goal

pub invariant_of-self : goal.invariant_of-self
invariant_of-self c = subst (λ (ns : List ℕ). Ascends 0 (2 ^ 32 - 1) ns) (sym c.advance-self-inside.ensures.passed) (ascends_from c.saturating_add-position.result 0 (2 ^ 32 - 1) _ c.self.invariant)

pub returns : goal.returns
returns c =
    let there : ℕ × List ℕ → ℕ → ℕ → Type 0 = λ s n place. Contains s.1 (n + s.0) in
    let new : ℕ × List ℕ = (c.self.inside.offset, option_to_list c.advance-self-inside.result ++ c.advance-self-inside.new.rest) in
    let reached = reaches_start c.self.inside.offset c.args.low c.saturating_add-position.result _ _ c.advance-self-inside.result c.self.invariant
    c.saturating_add-position.ensures c.advance-self-inside.ensures.passed (first_at_hand _ _ c.advance-self-inside.ensures.ended) in
    let answered = subst (λ (o : Option ℕ). Reaches (there (c.self.inside.offset, option_to_list c.self.inside.current ++ c.self.inside.rest)) (there new) c.args.low o) (sym c.start_of.ensures) reached in
    subst (λ (s : ℕ × List ℕ). Reaches (there s) (there new) c.args.low c.start_of.result) c.self.view_is answered
