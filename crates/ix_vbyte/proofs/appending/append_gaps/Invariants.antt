use Rattle.std.proofs.Common.{◌-◌, ◌^◌, ◌≤◌, drop, vec_capacity}
use Rattle.ix_vbyte.proofs.GapCodes.{HasPushed}
use Rattle.ix_vbyte.proofs.appending.append_gaps.Given as goal

abbrev pub invariant-loop-number : goal.invariant-loop-number
invariant-loop-number l = record {
  pushed : HasPushed (2 ^ 32 - 1) l.initial.out.items l.out.items l.fn.next l.after l.numbers (drop l.number-index l.numbers);
  room : vec_capacity l.initial.out ≤ vec_capacity l.out;
}
