use Rattle.std.proofs.Common.{◌≡◌, map, take}
use Rattle.ix_run.specs.Heads.{row_of_doc}
use Rattle.ix_merge.proofs.index_head.documents.Given as goal

-- the rows so far
abbrev pub invariant-loop-document : goal.invariant-loop-document
invariant-loop-document l = map row_of_doc l.docs.items ≡ take l.document l.index.parts.rows
