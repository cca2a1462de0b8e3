use Rattle.std.proofs.Common.{◌∙◌, ap, ◌-◌, arith}
use Rattle.ix_vbyte.proofs.OnePosition.{are_single, place_within, reads_single}
use Rattle.ix_vbyte.proofs.cursor.split_single.Goals as goal

pub overflow_sub-start : goal.overflow_sub-start
overflow_sub-start c = omega (arith, c.code_len.ensures.value, place_within c.args.bytes.now _ _ _ c.requires.found)

pub new-positions-requires : goal.new-positions-requires
new-positions-requires c = are_single c.args.bytes.now _ _ _ c.requires.found _ (ap (λ n. c.args.single.size - n) c.code_len.ensures.value) c.args.next c.requires.begins

pub overflow_add-posting : goal.overflow_add-posting
overflow_add-posting c =
    let first = c.requires.begins in
    let read = reads_single c.args.bytes.now _ _ _ c.requires.found _ (ap (λ n. c.args.single.size - n) c.code_len.ensures.value) c.args.next first.posting first.rest first.may first.coded in
    let below = first.may.below in
    record { fits = omega (arith, read.0, below) }

pub returns : goal.returns
returns c posting others may coded =
    let read = reads_single c.args.bytes.now _ _ _ c.requires.found _ (ap (λ n. c.args.single.size - n) c.code_len.ensures.value) c.args.next posting others may coded in
    (read.0, c.new-positions.ensures ∙ read.1, read.2)
