use Rattle.std.proofs.Common.{◌≡◌, ◌++◌}
use Rattle.ix_file.specs.Postings.{documents_of}
use Rattle.ix_query.proofs.answers.collect.documents.Given as goal

-- the documents so far, and those that are left
abbrev pub invariant-loop-posting : goal.invariant-loop-posting
invariant-loop-posting l = l.found.items ++ documents_of l.posting-iterator ≡ documents_of l.fn.postings
