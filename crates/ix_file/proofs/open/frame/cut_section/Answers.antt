use Rattle.std.proofs.Common.{◌<◌, ◌^◌, length, ap, arith, length-append}
use Rattle.ix_file.specs.Frames.{eight}
use Rattle.ix_file.proofs.FrameReading.{section_apart, length-eight}
use Rattle.ix_file.proofs.open.frame.cut_section.Goals as goal

pub returns-then-size-body-clause-refused : goal.returns-then-size-body-clause-refused
returns-then-size-body-clause-refused c section rest more e f =
    let size = c.read_length-size.result.0 in
    let behind = c.read_length-size.result.1.now in
    let short : length c.args.body.now < 2 ^ 64 = omega arith in
    let fits : size < 2 ^ 64 = omega arith in
    let same = section_apart c.args.body.now section rest c.args.sizes.now more size behind fits short c.read_length-size.ensures.value e f in
    let long = c.if-size-body.true in
    omega (arith, long, same.0, ap length e, length-append section rest)

pub returns-clause-less : goal.returns-clause-less
returns-clause-less c =
    let size = c.read_length-size.result.0 in
    let behind = c.read_length-size.result.1.now in
    omega (arith, ap length c.read_length-size.ensures.value, length-append (eight size) behind, length-eight size)
