use Rattle.std.proofs.Common.{◌*◌, ap, arith}
use Rattle.ix_postings.proofs.Marked.{set_if_marked}
use Rattle.ix_postings.specs.TokenMarks.{HoldsNumbers, room}
use Rattle.ix_postings.proofs.token_marks.TokenMarks.is_marked.Goals as goal

pub index-requires : goal.index-requires
unfolding room
index-requires c = omega arith

pub returns : goal.returns
unfolding HoldsNumbers room
returns c = λ numbers holds.
    set_if_marked _ c.args.self.now.words.items numbers c.args.number _ (ap (λ n. n * 64) c.args.self.now.words.ok.0) c.requires c.index.ensures holds
