use Rattle.std.proofs.Common.{◌≡◌, length}
use Rattle.ix_query.specs.Marked.{IsMarked}
use Rattle.ix_query.proofs.PartLemmas.{Gathered, OneBefore}
use Rattle.ix_query.proofs.answers.find.+find.Given as goal

-- the parts so far are gathered
abbrev pub invariant-find_each-loop-part : goal.invariant-find_each-loop-part
invariant-find_each-loop-part l = Gathered l.index.parts l.parts l.part-index l.present.items l.absent.items

-- the documents that the parts so far find are marked
abbrev pub invariant-find_one-loop-part : goal.invariant-find_one-loop-part
invariant-find_one-loop-part l = record {
  marked : OneBefore l.index.parts l.parts l.part-index (IsMarked l.marks);
  count : l.marks.count ≡ length l.index.parts.rows;
}
