use Rattle.std.proofs.Common.{◌≡◌, ◌+◌, drop, nat_eq}
use Rattle.std.specs.List.{common_prefix_len}
use Rattle.ix_lookup.proofs.word.shared_front.Given as goal

abbrev pub invariant-loop-place : goal.invariant-loop-place
invariant-loop-place l = l.place + common_prefix_len nat_eq (drop l.place l.one) (drop l.place l.other) ≡ common_prefix_len nat_eq l.one l.other
