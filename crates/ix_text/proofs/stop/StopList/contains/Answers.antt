use Rattle.std.proofs.Common.{◌≡◌, ◌↔◌, List, ℕ, Some, subst}
use Rattle.std.specs.Prelude.{IsTrue, slice_get, slice_index_or}
use Rattle.ix_text.specs.StopSlots.{AreSlotsOf}
use Rattle.ix_text.specs.declared.stop_slots.Slot.TheVariants.{Empty, One}
use Rattle.ix_text.proofs.StopSlotLemmas.{none_has, one_has}
use Rattle.ix_text.proofs.stop.StopList.contains.Goals as goal

pub returns-in-Empty : goal.returns-in-Empty
returns-in-Empty c =
    let slots = c.self.inside.slots in
    let P : ℕ → Type 0 = λ n. slice_index_or slots n Empty ≡ Empty in
    let Q : List (List ℕ) → Type 0 = AreSlotsOf slots in
    let none = none_has c.args.self.now slots c.args.term.now (subst Q c.self.view_is c.self.invariant.slotted) (subst P c.slot_of.ensures.value c.in-Empty.is) in
    (λ t. absurd cc, λ has. absurd (none has))

pub returns-in-One : goal.returns-in-One
returns-in-One c =
    let slots = c.self.inside.slots in
    let P : ℕ → Type 0 = λ n. slice_index_or slots n Empty ≡ One c.in-One.place in
    let Q : List (List ℕ) → Type 0 = AreSlotsOf slots in
    let R : List (List ℕ) → Type 0 = λ terms. IsTrue c.is_at.result ↔ (slice_get terms c.in-One.place ≡ Some c.args.term.now) in
    one_has c.args.self.now slots c.args.term.now c.in-One.place c.is_at.result (subst Q c.self.view_is c.self.invariant.slotted) (subst P c.slot_of.ensures.value c.in-One.is) (subst R c.terms.ensures.value c.is_at.ensures)
