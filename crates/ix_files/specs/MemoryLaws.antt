-- What a stop leaves of files in memory.
use Rattle.std.specs.Prelude.{List, [], ◌∷◌, ℕ, length}
use Rattle.std.proofs.Common.{inl, inr, arith}
use Rattle.ix_files.specs.MemoryChanges.{StopsSince, after_changes}
use Rattle.ix_files.specs.Slots.{Slots, Stops}
use Rattle.ix_files.specs.StopLaws.{stops_stops}
use Rattle.ix_files.specs.declared.memory_changes.Change.{Change}

pub now_counts : (changes : List Change) (since : ℕ) (left : Slots) → Stops (after_changes changes) left → StopsSince changes since left
now_counts [] since left stops = stops
now_counts (change ∷ earlier) since left stops = inl stops

pub now_only : (changes : List Change) (left : Slots) → StopsSince changes (length changes) left → Stops (after_changes changes) left
now_only [] left since = since
now_only (change ∷ earlier) left (inl stops) = stops
now_only (change ∷ earlier) left (inr early) = let le = early.0 in absurd (omega arith)

pub stop_again : (changes : List Change) (since : ℕ) (left after : Slots) → StopsSince changes since left → Stops left after → StopsSince changes since after
stop_again [] since left after once again = stops_stops once again
stop_again (change ∷ earlier) since left after (inl once) again = inl (stops_stops once again)
stop_again (change ∷ earlier) since left after (inr early) again = inr (early.0, stop_again earlier since left after early.1 again)
