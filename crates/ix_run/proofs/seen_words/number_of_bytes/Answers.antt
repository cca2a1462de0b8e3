use Rattle.std.proofs.Common.{◌≤◌, drop, length, arith}
use Rattle.std.proofs.lemmas.List.{length-drop}
use Rattle.ix_run.proofs.SeenLemmas.{are_bytes, are_bytes-drop, number_low}
use Rattle.ix_run.proofs.seen_words.number_of_bytes.Goals as goal

pub overflow_mul-number : goal.overflow_mul-number
overflow_mul-number c =
    let bytes = c.args.bytes.now in
    let place = c.loop-place.place in
    let short : length (drop place bytes) ≤ 7 = omega (arith, length-drop place bytes) in
    let low = number_low (drop place bytes) (are_bytes-drop place bytes (are_bytes bytes (λ k. omega (arith, c.type_inv.bytes k)))) short in
    omega (arith, low)

pub overflow_add-number : goal.overflow_add-number
overflow_add-number c =
    let bytes = c.args.bytes.now in
    let place = c.loop-place.place in
    let short : length (drop place bytes) ≤ 7 = omega (arith, length-drop place bytes) in
    let low = number_low (drop place bytes) (are_bytes-drop place bytes (are_bytes bytes (λ k. omega (arith, c.type_inv.bytes k)))) short in
    omega (arith, low)
