use Rattle.std.proofs.Common.{◌≡◌, ℕ, ◌<◌, ◌⊎◌, ◌↔◌, Contains}
use Rattle.ix_file.specs.Postings.{documents_of}
use Rattle.ix_query.specs.Marked.{IsMarked}
use Rattle.ix_query.proofs.answers.matches.mark_documents.Given as goal

-- what is marked, and the documents that are left, are what there was and all documents
abbrev pub invariant-loop-posting : goal.invariant-loop-posting
invariant-loop-posting l = record {
  marked : (n : ℕ) → (IsMarked l.marks n ⊎ (Contains (documents_of l.posting-iterator) n × (n < l.marks.count))) ↔ (IsMarked l.initial.marks n ⊎ (Contains (documents_of l.fn.postings) n × (n < l.marks.count)));
  count : l.marks.count ≡ l.initial.marks.count;
}
