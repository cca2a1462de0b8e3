use Rattle.std.proofs.Common.{◌-◌, ◌^◌, ℕ, List, sym, ap, subst, ◌∙◌}
use Rattle.ix_file.specs.Gaps.{Ascends}
use Rattle.ix_query.specs.Streams.{from_number}
use Rattle.ix_query.proofs.StreamLemmas.{ascends_from, reaches_number, first_dropped}
use Rattle.ix_query.proofs.answers.doc_list.DocListNumbers.seek.Goals as goal

pub invariant_of-self : goal.invariant_of-self
invariant_of-self c =
    let passed = rw c.as_slice.ensures.value at c.place_from-self-inside.ensures.passed in
    (rw c.as_slice.ensures.value at c.place_from-self-inside.ensures.within, subst (λ (ns : List ℕ). Ascends 0 (2 ^ 32 - 1) ns) (sym passed) (ascends_from c.args.low 0 (2 ^ 32 - 1) _ c.self.invariant.1))

pub returns : goal.returns
returns c =
    let passed = rw c.as_slice.ensures.value at c.place_from-self-inside.ensures.passed in
    reaches_number 0 c.args.low c.args.self.now _ _ (subst (λ (ns : List ℕ). Ascends 0 (2 ^ 32 - 1) ns) c.self.view_is c.self.invariant.1)
    (passed ∙ ap (from_number c.args.low) c.self.view_is)
    (rw c.as_slice-2.ensures.value at c.number_at.ensures ∙ first_dropped _ c.self.inside.numbers.items)
