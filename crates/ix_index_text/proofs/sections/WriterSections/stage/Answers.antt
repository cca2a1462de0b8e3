use Rattle.std.proofs.Common.{◌≡◌, ◌+◌, ◌-◌, ◌*◌, ◌≤◌, arith, ap, length, length-append, ◌++◌}
use Rattle.ix_vbyte.specs.Postings.{posting_bytes}
use Rattle.ix_index_text.proofs.TellingLemmas.{length-posting_bytes}
use Rattle.ix_index_text.proofs.sections.WriterSections.stage.Goals as goal

pub overflow_cast-gained : goal.overflow_cast-gained
overflow_cast-gained c =
    let coded = posting_bytes (c.args.document + 1 - c.args.self.now.list.next) (c.args.document, c.args.positions.now) in
    let most : length coded ≤ 15 * length c.args.positions.now = length-posting_bytes _ c.args.document c.args.positions.now (omega arith) c.requires.some c.requires.ascending in
    let grown : length c.push_posting.new.out.items ≡ length (c.args.self.now.pending.items ++ coded) = ap length c.in_ok-push_posting.ensures.ok in
    omega (arith, grown, length-append c.args.self.now.pending.items coded)

pub count-requires-clause-list : goal.count-requires-clause-list
count-requires-clause-list c =
    let coded = posting_bytes (c.args.document + 1 - c.args.self.now.list.next) (c.args.document, c.args.positions.now) in
    let most : length coded ≤ 15 * length c.args.positions.now = length-posting_bytes _ c.args.document c.args.positions.now (omega arith) c.requires.some c.requires.ascending in
    let grown : length c.push_posting.new.out.items ≡ length (c.args.self.now.pending.items ++ coded) = ap length c.in_ok-push_posting.ensures.ok in
    omega (arith, grown, length-append c.args.self.now.pending.items coded)

pub count-requires-clause-postings : goal.count-requires-clause-postings
count-requires-clause-postings c =
    let coded = posting_bytes (c.args.document + 1 - c.args.self.now.list.next) (c.args.document, c.args.positions.now) in
    let most : length coded ≤ 15 * length c.args.positions.now = length-posting_bytes _ c.args.document c.args.positions.now (omega arith) c.requires.some c.requires.ascending in
    let grown : length c.push_posting.new.out.items ≡ length (c.args.self.now.pending.items ++ coded) = ap length c.in_ok-push_posting.ensures.ok in
    omega (arith, grown, length-append c.args.self.now.pending.items coded)
