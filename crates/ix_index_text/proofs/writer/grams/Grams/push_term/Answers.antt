-- One term more.
use Rattle.std.proofs.Common.{arith, string_bytes}
use Rattle.ix_index_text.proofs.TermTexts.{as_many, texts_more}
use Rattle.ix_index_text.proofs.writer.grams.Grams.push_term.Goals as goal

pub returns : goal.returns
returns c = λ terms held.
    let self = c.args.self.now in
    let (others, also, few) = c.requires.few in
    let many = as_many (string_bytes self.texts) self.sizes.items terms held.are in
    let same = as_many (string_bytes self.texts) self.sizes.items others also.are in
    record { are = rw (c.in_ok-push_str.ensures.bytes, c.in_ok-push.ensures.items) (texts_more (string_bytes self.texts) self.sizes.items terms c.args.term.now held.are (omega (arith, many, same, few)) c.utf8.term) }
