use Rattle.std.proofs.Common.{◌≤◌, decimal, length, ap, string_bytes, rules, arith}
use Rattle.std.proofs.lemmas.Fmt.{length-decimal-le}
use Rattle.std.proofs.lemmas.Grind.{common_steps}
use Rattle.ix_files.proofs.Naming.{another_name, named}
use Rattle.ix_files.proofs.draft.draft_name.Goals as goal

pub overflow_sub-len : goal.overflow_sub-len
overflow_sub-len c =
    let ten : length (decimal c.args.number) ≤ 10 = length-decimal-le 10 c.args.number (omega arith) (omega (arith, c.ranges.number.fits)) (omega (arith, c.ranges.number.fits)) in
    omega (arith, ten, c.len.ensures, ap length c.in_ok-end.ensures.ok)

pub front_of-requires : goal.front_of-requires
front_of-requires c =
    let ten : length (decimal c.args.number) ≤ 10 = length-decimal-le 10 c.args.number (omega arith) (omega (arith, c.ranges.number.fits)) (omega (arith, c.ranges.number.fits)) in
    omega (arith, ten, c.len.ensures, ap length c.in_ok-end.ensures.ok)

pub returns-clause-spelled : goal.returns-clause-spelled
returns-clause-spelled c = named c.args.name.now c.front_of.result.now (string_bytes c.in_ok-end.end) _ c.args.number (omega (arith, c.ranges.number.fits)) (search rules)
    (first_of (search rules, grind (arith, common_steps))) (λ fits. c.front_of.ensures.whole (omega (arith, fits, c.len.ensures)))
    c.requires c.front_of.ensures.begins (omega (arith, c.front_of.ensures.short, c.len.ensures))

pub returns-clause-another : goal.returns-clause-another
returns-clause-another c = another_name c.args.name.now c.front_of.result.now (string_bytes c.in_ok-end.end) _ c.args.number (omega (arith, c.ranges.number.fits)) (search rules)
    (first_of (search rules, grind (arith, common_steps))) (λ fits. c.front_of.ensures.whole (omega (arith, fits, c.len.ensures)))
    (λ long. c.front_of.ensures.cut (omega (arith, long, c.len.ensures)))
