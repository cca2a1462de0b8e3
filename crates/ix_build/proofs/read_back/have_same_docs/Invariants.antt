use Rattle.std.proofs.Common.{◌≡◌, map, take}
use Rattle.ix_run.specs.Heads.{row_of_doc}
use Rattle.ix_build.proofs.read_back.have_same_docs.Given as goal

abbrev pub invariant-loop-place : goal.invariant-loop-place
invariant-loop-place l = map row_of_doc (take l.place l.one) ≡ map row_of_doc (take l.place l.other)
