use Rattle.std.proofs.Common.{◌*◌, ◌/◌, ◌%◌, ◌^◌, ap, ◌∙◌}
use Rattle.ix_vbyte.proofs.EndsByByte.{ends_of_word}
use Rattle.ix_vbyte.proofs.skipping.count_ends.Goals as goal

pub returns : goal.returns
returns c = ap (λ n. n / 2 ^ 7 * 0x0101_0101_0101_0101 % 2 ^ 64) c.marks_in_word.ensures ∙ ends_of_word c.args.word.now c.told-word
