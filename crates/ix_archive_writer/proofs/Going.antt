-- What stops leave goes on from call to call.
use Rattle.std.proofs.Common.{⊎_elim, arith, inl, inr}
use Rattle.ix_files.specs.Slots.{Slots, Stops}
use Rattle.ix_files.specs.Views.{LeavesOnly, View}

-- calls, and calls after them that leave the same
pub then_leaves : {P : Slots → Type 0} {old mid new : View} → LeavesOnly P old mid → LeavesOnly P mid new → LeavesOnly P old new
then_leaves {old = old} first next = record {
  later = omega (arith, first.later, next.later);
  each = λ left was. ⊎_elim (first.each left) (λ p. p) (next.before old.moment left first.later was);
  before = λ t left le was. ⊎_elim (first.before t left le) inr (next.before t left (omega (arith, le, first.later)) was);
}

-- before the first call
pub begun : {P : Slots → Type 0} (old : View) → ((left : Slots) → old.left_since old.moment left → Stops old.slots left) → ((left : Slots) → Stops old.slots left → P left) → LeavesOnly P old old
begun old only leaves = record {
  later = omega arith;
  each = λ left was. leaves left (only left was);
  before = λ t left le was. inl was;
}
