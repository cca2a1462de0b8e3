use Rattle.std.proofs.Common.{◌∙◌, List, ℕ, ap}
use Rattle.std.specs.Prelude.{slice_index}
use Rattle.ix_text.specs.StopSlots.{slot_number}
use Rattle.ix_text.proofs.StopSlotLemmas.{slot_from}
use Rattle.ix_text.proofs.stop_slots.slot_of.Goals as goal

pub returns-clause-value : goal.returns-clause-value
returns-clause-value c =
    let bytes : List ℕ = c.as_bytes-bytes.result.now in
    slot_from bytes c.byte_at.result c.byte_at-2.result c.byte_at-3.result c.byte_at-4.result c.byte_at.ensures.value c.byte_at-2.ensures.value
    (c.byte_at-3.ensures.value ∙ ap (slice_index bytes) c.saturating_sub.ensures) (c.byte_at-4.ensures.value ∙ ap (slice_index bytes) c.saturating_sub-2.ensures)
    ∙ ap slot_number c.as_bytes-bytes.ensures.value
