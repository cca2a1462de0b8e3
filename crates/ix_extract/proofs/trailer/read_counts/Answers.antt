use Rattle.std.proofs.Common.{◌≡◌, ◌≤◌, ◌++◌, [], ap, ◌∙◌, length, arith}
use Rattle.std.proofs.lemmas.List.{nil_from_length, append-nil}
use Rattle.ix_file.specs.Frames.{four}
use Rattle.ix_file.proofs.FrameReading.{four_read, bytes_taken, bytes_dropped}
use Rattle.ix_extract.proofs.trailer.read_counts.Goals as goal

pub returns : goal.returns
returns c =
    let numbers = c.args.numbers.now in
    let documents = c.unwrap.result in
    let terms = c.unwrap-2.result in
    let cut = rw c.unwrap.ensures at c.split_first_chunk.ensures.cases in
    let then = rw c.unwrap-2.ensures at c.split_first_chunk-2.ensures.cases in
    let long : 4 ≤ length numbers = omega (arith, c.requires) in
    let first = four_read numbers documents.0.now documents.1.now c.from_le_bytes.result cut.0 cut.1 long (bytes_taken numbers documents.0.now 4 cut.0 (λ i. omega (arith, c.type_inv.numbers i))) c.from_le_bytes.ensures in
    let each = bytes_dropped numbers documents.1.now 4 cut.1 (λ i. omega (arith, c.type_inv.numbers i)) in
    let second = four_read documents.1.now terms.0.now terms.1.now c.from_le_bytes-2.result then.0 then.1 (omega (arith, c.requires, cut.2)) (bytes_taken documents.1.now terms.0.now 4 then.0 each) c.from_le_bytes-2.ensures in
    let nothing : terms.1.now ≡ [] = nil_from_length terms.1.now (omega (arith, c.requires, cut.2, then.2)) in
    first ∙ ap (λ bytes. four c.from_le_bytes.result ++ bytes) (second ∙ ap (λ bytes. four c.from_le_bytes-2.result ++ bytes) nothing ∙ append-nil (four c.from_le_bytes-2.result))
