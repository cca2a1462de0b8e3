-- One name after another is removed.
use Rattle.std.proofs.Common.{◌∙◌, ◌↔◌, ◌⊎◌, ◌<◌, ℕ, List, Bor, Contains, inl, inr, map, subst, sym}
use Rattle.std.proofs.lemmas.List.{take_all}
use Rattle.ix_text.proofs.AscendingLists.{contains_none}
use Rattle.ix_removals.specs.RemovalsText.{AreRemovals, IsRemoved, Removal}
use Rattle.ix_removals.proofs.RemovedLemmas.{entries_cloned, names_more}
use Rattle.ix_removals.proofs.removals.Removals.with.Goals as goal

pub invariant_of-removals : goal.invariant_of-removals
invariant_of-removals c = subst AreRemovals (sym (entries_cloned c.self.inside.bounds.entries c.in_ok-bounds.bounds.entries c.in_ok-bounds.ensures.cases)) c.self.invariant

pub loop-name-init : goal.loop-name-init
loop-name-init c = λ name number.
    let same = entries_cloned c.self.inside.bounds.entries c.in_ok-bounds.bounds.entries c.in_ok-bounds.ensures.cases ∙ c.self.view_is in
    let P : List Removal → Type 0 = λ removals. IsRemoved removals name number in (
      λ removed. inl (subst P same removed),
      λ either. elim either [ inl removed ↦ subst P (sym same) removed | inr none ↦ absurd (contains_none name none.0) ],
    )

pub loop-name-preserved : goal.loop-name-preserved
loop-name-preserved c =
    names_more (λ one. one.now) c.args.names.now c.loop-name.name-index _ c.args.self.now c.loop-name.removals c.add.new.self c.args.below c.loop-name-test.true c.loop-name.invariant c.in_ok-add.ensures.removed

pub returns : goal.returns
returns c =
    let P : List (Bor (List ℕ)) → Type 0 = λ names. (name : List ℕ) (number : ℕ) → IsRemoved c.loop-name.removals name number ↔ (IsRemoved c.args.self.now name number ⊎ (Contains (map (λ one. one.now) names) name × (number < c.args.below))) in
    subst P (take_all c.loop-name.name-index c.args.names.now c.loop-name-test.false) c.loop-name.invariant
