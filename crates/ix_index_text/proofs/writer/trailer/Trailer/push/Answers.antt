use Rattle.std.specs.Int.{to_le_bytes, w32, w64}
use Rattle.ix_index_text.specs.Endings.{trailer_bytes}
use Rattle.ix_index_text.specs.IndexText.{end_mark}
use Rattle.ix_index_text.specs.Sections.{FrontCoded}
use Rattle.ix_index_text.proofs.EndingLemmas.{eight_appended}
use Rattle.ix_index_text.proofs.writer.trailer.Trailer.push.Goals as goal

pub returns : goal.returns
unfolding trailer_bytes end_mark
returns c =
    eight_appended _ _ _ _ _ _ _ _ _
    (to_le_bytes w64 c.args.self.now.postings) (to_le_bytes w64 c.args.self.now.stop) (to_le_bytes w64 c.args.self.now.documents) (to_le_bytes w64 c.args.self.now.dictionary)
    (to_le_bytes w64 c.args.self.now.grams) (to_le_bytes w32 c.args.self.now.rows) (to_le_bytes w32 c.args.self.now.entries) (end_mark FrontCoded) _ _ _ _ _ _ _
    c.in_ok-extend_from_slice.ensures.items c.in_ok-extend_from_slice-2.ensures.items c.in_ok-extend_from_slice-3.ensures.items c.in_ok-extend_from_slice-4.ensures.items
    c.in_ok-extend_from_slice-5.ensures.items c.in_ok-extend_from_slice-6.ensures.items c.in_ok-extend_from_slice-7.ensures.items c.in_ok-extend_from_slice-8.ensures.items
    c.to_le_bytes.ensures c.to_le_bytes-2.ensures c.to_le_bytes-3.ensures c.to_le_bytes-4.ensures c.to_le_bytes-5.ensures c.to_le_bytes-6.ensures c.to_le_bytes-7.ensures
