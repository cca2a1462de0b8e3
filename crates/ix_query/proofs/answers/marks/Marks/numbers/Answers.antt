use Rattle.std.proofs.Common.{ℕ, List, get_or, ap, arith}
use Rattle.ix_query.proofs.BitLemmas.{words_more, words_can}
use Rattle.ix_query.proofs.answers.marks.Marks.numbers.Goals as goal

pub push_bits-requires : goal.push_bits-requires
push_bits-requires c =
    let is = ap (λ (ws : List ℕ). get_or ws c.loop-place.place 0) c.deref-word-items.ensures.value in
    let low = c.type_inv.word-items c.loop-place.place in
    words_can c.args.self.now.words.items _ c.loop-place.place _ c.args.self.now.count low.fits is (omega arith) c.args.self.now.within c.loop-place.invariant

pub loop-place-preserved : goal.loop-place-preserved
loop-place-preserved c =
    let is = ap (λ (ws : List ℕ). get_or ws c.loop-place.place 0) c.deref-word-items.ensures.value in
    let low = c.type_inv.word-items c.loop-place.place in
    words_more c.args.self.now.words.items _ _ c.loop-place.place _ low.fits is c.loop-place.invariant c.in_ok-push_bits.ensures
