use Rattle.std.proofs.Common.{arith, ◌<◌, ◌≢◌, length, sym, ◌∙◌}
use Rattle.std.proofs.lemmas.Bool.{eqb-false}
use Rattle.ix_vbyte.proofs.Fronts.{reads_one}
use Rattle.ix_lookup.proofs.row.read_number.Goals as goal

pub returns-then-bytes-ge128 : goal.returns-then-bytes-ge128
returns-then-bytes-ge128 c =
    let filled : length c.args.bytes.now ≢ 0 = eqb-false (length c.args.bytes.now) 0 (sym c.is_empty.ensures ∙ c.if-not-is_empty.true) in
    let some : 0 < length c.args.bytes.now = omega arith in
    reads_one c.args.bytes.now _ some c.if-bytes-ge128.true (omega (arith, (c.type_inv.bytes 0).fits)) (omega arith)
