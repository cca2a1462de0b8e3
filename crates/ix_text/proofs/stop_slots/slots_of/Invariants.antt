use Rattle.std.proofs.Common.{◌≡◌, length, map, string_bytes}
use Rattle.ix_text.proofs.StopSlotLemmas.{AreSlotsBefore}
use Rattle.ix_text.proofs.stop_slots.slots_of.Given as goal

abbrev pub invariant-loop-place : goal.invariant-loop-place
invariant-loop-place l = record {
  size : length l.slots ≡ 1024;
  before : AreSlotsBefore l.slots (map string_bytes l.terms) l.place;
}
