use Rattle.std.proofs.Common.{◌/◌, ◌^◌, ◌-◌, ◌+◌, ◌*◌, ap, sym, ◌∙◌, bit_and, arith, w64}
use Rattle.std.specs.Int.{trailing_zeros}
use Rattle.ix_vbyte.proofs.EndsByByte.{are_ends, end_at}
use Rattle.ix_vbyte.proofs.skipping.end_in_word.Goals as goal

pub returns-then-all-count : goal.returns-then-all-count
returns-then-all-count c = (ap (λ n. n / 2 ^ 56) c.count_ends-ends.ensures ∙ (are_ends c.args.word.now c.told-word).all, c.if-all-count.true)

pub overflow_add-reached : goal.overflow_add-reached
overflow_add-reached c = record { fits = omega (arith, c.count_ends-ends.ensures, (are_ends c.args.word.now c.told-word).low) }

pub returns : goal.returns
returns c behind =
    end_at c.args.word.now behind c.args.count c.count_ends-ends.result c.told-word c.count_ends-ends.ensures c.requires c.if-all-count.false
    ∙ ap (λ n. trailing_zeros w64 (bit_and (c.count_ends-ends.result + 0x8080_8080_8080_8080 - n * 0x0101_0101_0101_0101) 0x8080_8080_8080_8080) / 8 + 1) (sym c.from.ensures)
