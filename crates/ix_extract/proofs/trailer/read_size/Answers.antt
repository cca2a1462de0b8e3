use Rattle.std.proofs.Common.{arith}
use Rattle.ix_file.proofs.FrameReading.{eight_read, bytes_taken}
use Rattle.ix_extract.proofs.trailer.read_size.Goals as goal

pub returns-clause-told : goal.returns-clause-told
returns-clause-told c =
    let cut = rw c.unwrap.ensures at c.split_first_chunk.ensures.cases in
    let bytes = c.args.bytes.now in
    eight_read bytes c.unwrap.result.0.now c.unwrap.result.1.now c.from_le_bytes.result cut.0 cut.1 c.requires (bytes_taken bytes c.unwrap.result.0.now 8 cut.0 (λ i. omega (arith, c.type_inv.bytes i))) c.from_le_bytes.ensures

pub returns-clause-size : goal.returns-clause-size
returns-clause-size c =
    let cut = rw c.unwrap.ensures at c.split_first_chunk.ensures.cases in
    omega (arith, c.requires, cut.2)
