use Rattle.std.proofs.Common.{ℕ, ◌<◌, ◌⊎◌, ◌↔◌, List, Contains, ◌∙◌, subst}
use Rattle.ix_file.specs.Postings.{Posting, documents_of}
use Rattle.ix_query.specs.Marked.{IsMarked}
use Rattle.ix_query.proofs.MatchLemmas.{mark_step}
use Rattle.ix_query.proofs.answers.matches.mark_documents.Goals as goal

pub loop-posting-preserved : goal.loop-posting-preserved
loop-posting-preserved c =
    let whole : ℕ → Type 0 = λ n. IsMarked c.args.marks.now n ⊎ (Contains (documents_of c.args.postings) n × (n < c.loop-posting.marks.count)) in
    let before = subst (λ (ps : List Posting). (n : ℕ) → (IsMarked c.loop-posting.marks n ⊎ (Contains (documents_of ps) n × (n < c.loop-posting.marks.count))) ↔ whole n) c.in-Some.ensures.steps c.loop-posting.invariant.marked in
    record {
      marked = λ n. rw c.mark.ensures.count (mark_step (IsMarked c.loop-posting.marks) (IsMarked c.mark.new.self) whole c.loop-posting.marks.count c.in-Some.posting.document (documents_of c.next.new.self) before c.mark.ensures.marked n);
      count = c.mark.ensures.count ∙ c.loop-posting.invariant.count;
    }
