use Rattle.ix_query.proofs.BitLemmas.{WordsRead}
use Rattle.ix_query.proofs.answers.marks.Marks.numbers.Given as goal

-- the numbers of the words so far
abbrev pub invariant-loop-place : goal.invariant-loop-place
invariant-loop-place l = WordsRead l.self.words.items l.found.items l.place
