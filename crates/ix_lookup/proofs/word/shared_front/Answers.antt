use Rattle.std.proofs.Common.{◌≤◌, nat_eq, arith, length, drop, length-drop}
use Rattle.std.specs.List.{common_prefix_len}
use Rattle.std.proofs.lemmas.List.Sums.{common_prefix_len-le}
use Rattle.ix_lookup.proofs.word.shared_front.Goals as goal

pub returns : goal.returns
returns c =
    let one = drop c.loop-place.place c.args.one.now in
    let other = drop c.loop-place.place c.args.other.now in
    let few : (common_prefix_len nat_eq one other ≤ length one) × (common_prefix_len nat_eq one other ≤ length other) = common_prefix_len-le nat_eq one other in
    let all : (common_prefix_len nat_eq c.args.one.now c.args.other.now ≤ length c.args.one.now) × (common_prefix_len nat_eq c.args.one.now c.args.other.now ≤ length c.args.other.now) = common_prefix_len-le nat_eq c.args.one.now c.args.other.now in
    record {
      value = omega (arith, length-drop c.loop-place.place c.args.one.now, length-drop c.loop-place.place c.args.other.now, c.loop-place.invariant);
      within = omega arith;
    }
