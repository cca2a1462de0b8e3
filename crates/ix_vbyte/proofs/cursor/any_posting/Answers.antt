use Rattle.std.proofs.Common.{◌≤◌, ◌∙◌, arith}
use Rattle.std.proofs.lemmas.List.{take_rest}
use Rattle.ix_vbyte.proofs.Walks.{places_next, posting_read}
use Rattle.ix_vbyte.proofs.cursor.any_posting.Goals as goal

pub first_number-places-requires : goal.first_number-places-requires
first_number-places-requires c = places_next c.args.next c.args.bytes.now _ _ c.requires c.first_number-gap.ensures

pub new-positions-requires : goal.new-positions-requires
new-positions-requires c =
    (posting_read c.args.next c.args.bytes.now _ _ _ _ _ c.requires.posting c.requires.rest c.first_number-gap.ensures c.first_number-places.ensures c.skip_codes-end.ensures.codes c.requires.may c.requires.coded).positions.are

pub returns : goal.returns
returns c posting others may coded =
    let read = posting_read c.args.next c.args.bytes.now _ _ _ _ _ posting others c.first_number-gap.ensures c.first_number-places.ensures c.skip_codes-end.ensures.codes may coded in
    let above : c.args.next ≤ posting.0 = may.above in
    (omega (arith, read.gap_is, above), c.new-positions.ensures ∙ read.positions.told, take_rest c.first_number-places.result.1.now c.skip_codes-end.result ∙ read.behind)
