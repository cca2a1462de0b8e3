use Rattle.ix_postings.proofs.Marked.{ApartBefore}
use Rattle.ix_postings.proofs.token_marks.TokenMarks.meets.Given as goal

abbrev pub invariant-loop-place : goal.invariant-loop-place
invariant-loop-place l = ApartBefore l.self.words.items l.other.words.items l.place
