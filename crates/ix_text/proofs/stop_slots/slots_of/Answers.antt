use Rattle.std.proofs.Common.{◌≡◌, ◌+◌, ◌∙◌, List, ℕ, map, sym, subst, ap, arith, get_or, set, true, string_bytes}
use Rattle.std.proofs.lemmas.List.{length-map, length-set}
use Rattle.std.proofs.lemmas.Option.{slice_get_within}
use Rattle.ix_text.specs.StopSlots.{admits, slot_number}
use Rattle.ix_text.specs.declared.stop_slots.Slot.TheVariants.{Empty}
use Rattle.ix_text.proofs.StopSlotLemmas.{AreSlotsBefore, held_at, slots_before-more}
use Rattle.ix_text.proofs.stop_slots.slots_of.Goals as goal

pub loop-place-preserved : goal.loop-place-preserved
loop-place-preserved c =
    let terms = c.args.terms.now in
    let place : ℕ = c.loop-place.place in
    let slots = c.loop-place.slots in
    let term : List ℕ = string_bytes c.index-terms-place.result in
    let new = c.joined.result in
    let slot : c.slot_of-slot.result ≡ slot_number term = c.slot_of-slot.ensures.value ∙ ap slot_number c.as_str.ensures.value in
    let P : ℕ → Type 0 = λ n. AreSlotsBefore (set slots n new) (map string_bytes terms) (place + 1) in
    let Q : ℕ → Type 0 = λ n. (other : ℕ) → admits (get_or slots n Empty) other ≡ true → admits new other ≡ true in
    record {
      size = length-set slots c.slot_of-slot.result new ∙ c.loop-place.invariant.size;
      before = subst P (sym slot)
          (slots_before-more slots (map string_bytes terms) place term new (held_at string_bytes terms place c.index-terms-place.result c.loop-place-test.true c.index-terms-place.is)
          (omega (arith, slot, c.slot_of-slot.ensures.low, c.loop-place.invariant.size)) c.joined.ensures.here (subst Q slot c.joined.ensures.others) c.loop-place.invariant.before);
    }

pub returns : goal.returns
returns c place term at =
    let within = slice_get_within (map string_bytes c.args.terms.now) place term at in
    let past = c.loop-place-test.false in
    c.loop-place.invariant.before place term (omega (arith, within, past, length-map c.args.terms.now string_bytes)) at
