use Rattle.std.proofs.Common.{map, take}
use Rattle.ix_postings.specs.TokenTables.{HasTokens}
use Rattle.ix_run_text.specs.Heads.{row_of_doc}
use Rattle.ix_run_text.proofs.token_counts.table_of.Given as goal

abbrev pub invariant-loop-doc : goal.invariant-loop-doc
invariant-loop-doc l = HasTokens l.table (map row_of_doc (take l.doc-index l.docs))
