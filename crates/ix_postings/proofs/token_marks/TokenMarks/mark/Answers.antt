use Rattle.std.proofs.Common.{◌*◌, ap, refl, arith}
use Rattle.ix_postings.proofs.Marked.{one_marked, free_if_unmarked}
use Rattle.ix_postings.specs.TokenMarks.{HoldsNumbers, room}
use Rattle.ix_postings.proofs.token_marks.TokenMarks.mark.Goals as goal

pub index_mut-word-requires : goal.index_mut-word-requires
unfolding room
index_mut-word-requires c = omega arith

pub returns-clause-room : goal.returns-clause-room
unfolding room
returns-clause-room c = refl

pub returns-clause-free : goal.returns-clause-free
unfolding HoldsNumbers room
returns-clause-free c = λ numbers holds.
    free_if_unmarked _ c.args.self.now.words.items numbers c.args.number _ (ap (λ n. n * 64) c.args.self.now.words.ok.0) c.requires c.index_mut-word.ensures.value holds

pub returns-clause-marked : goal.returns-clause-marked
unfolding HoldsNumbers room
returns-clause-marked c = λ numbers holds.
    one_marked _ c.args.self.now.words.items numbers c.args.number _ (ap (λ n. n * 64) c.args.self.now.words.ok.0) c.requires c.index_mut-word.ensures.value holds
