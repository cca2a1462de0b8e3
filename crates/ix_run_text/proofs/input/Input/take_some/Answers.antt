-- A part of what is held is taken.
use Rattle.std.proofs.Common.{◌+◌, ◌-◌, ◌≤◌, length, take, drop, arith}
use Rattle.ix_run_text.specs.Inputs.{known_left}
use Rattle.ix_run_text.proofs.InputLemmas.{part_taken, length-range}
use Rattle.ix_run_text.proofs.input.Input.take_some.Goals as goal

pub returns-clause-some : goal.returns-clause-some
unfolding known_left
returns-clause-some g c =
    let input = c.has_byte.new.self in
    let count = c.min-count.result in
    let some = rw c.if-not-branch.false at c.in_ok-has_byte.ensures.has in
    let le : input.start + count ≤ input.end = omega arith in
    let within : input.end ≤ length input.buffer.items = omega (arith, input.buffer.ok.0, input.within) in
    let len = length-range input.buffer.items input.start input.end count le within in (
      take ((input.start + count) - input.start) (drop input.start input.buffer.items),
      omega (arith, len, some),
      omega (arith, len),
      (rw c.deref.ensures.value at c.in_ok-extend_from_slice.ensures.items),
      part_taken (g.R.Read.remaining input.reader) input.buffer.items input.start input.end count (known_left g.R.Read.remaining c.args.self.now) c.in_ok-has_byte.ensures.kept le within,
    )
