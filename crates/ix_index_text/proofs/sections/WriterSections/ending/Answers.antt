use Rattle.std.proofs.Common.{◌≡◌, length, arith}
use Rattle.ix_index_text.proofs.EndingLemmas.{is_ending, trailer_is}
use Rattle.ix_index_text.proofs.sections.WriterSections.ending.Goals as goal

pub returns : goal.returns
returns c terms held =
    let stop : c.len.result ≡ length c.args.self.now.stop.items = omega arith in
    let documents : c.len-2.result ≡ length c.args.self.now.documents.items = omega arith in
    let dictionary : c.len-3.result ≡ length c.args.self.now.dictionary.bytes.items = omega arith in
    let grams : c.len-4.result ≡ length c.write.new.out.items = omega arith in
    is_ending c.args.self.now terms c.write.new.out.items c.push.new.out.items _ (rw c.new-ending.ensures.items at (c.in_ok-write.ensures.ok terms held))
    (trailer_is c.args.self.now _ _ _ _ _ stop documents dictionary grams) c.in_ok-push.ensures
