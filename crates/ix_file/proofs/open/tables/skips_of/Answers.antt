use Rattle.std.proofs.Common.{◌<◌, length, Contains, inr, sym, subst}
use Rattle.std.proofs.lemmas.List.Elements.{Contains-get_or}
use Rattle.ix_file.proofs.open.tables.skips_of.Goals as goal

pub returns : goal.returns
returns c =
    let long = c.index-longs-place.result in
    let bound : c.in-Ok.place < length c.args.longs.now = c.in-Ok.ensures.bound in
    let among : Contains c.args.longs.now long = subst (Contains c.args.longs.now) (sym c.index-longs-place.is) (Contains-get_or c.args.longs.now c.in-Ok.place _ bound) in
    inr (long, among, c.if-long-number.false, c.as_slice.ensures.value)
