use Rattle.std.proofs.Common.{◌≡◌, ℕ, ◌↔◌, length}
use Rattle.ix_query.specs.Marked.{IsMarked}
use Rattle.ix_query.proofs.MatchLemmas.{ListedBefore}
use Rattle.ix_query.proofs.answers.matches.find_matches.Given as goal

-- the documents of the terms so far are marked
abbrev pub invariant-loop-number : goal.invariant-loop-number
invariant-loop-number l = record {
  marked : (n : ℕ) → IsMarked l.marks n ↔ ListedBefore l.index.parts.entries l.number-items l.marks.count l.number-index n;
  count : l.marks.count ≡ length l.index.parts.rows;
}
