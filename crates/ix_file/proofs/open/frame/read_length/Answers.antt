use Rattle.std.proofs.Common.{arith}
use Rattle.ix_file.proofs.FrameReading.{eight_read, bytes_taken}
use Rattle.ix_file.proofs.open.frame.read_length.Goals as goal

pub returns : goal.returns
returns c =
    let cut = rw c.unwrap.ensures at c.split_first_chunk.ensures.cases in
    let sizes = c.args.sizes.now in
    record {
      value = eight_read sizes c.unwrap.result.0.now c.unwrap.result.1.now c.from_le_bytes.result cut.0 cut.1 c.requires (bytes_taken sizes c.unwrap.result.0.now 8 cut.0 (λ i. omega (arith, c.type_inv.sizes i))) c.from_le_bytes.ensures;
    }
