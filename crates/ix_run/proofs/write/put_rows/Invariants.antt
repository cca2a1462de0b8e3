use Rattle.std.proofs.Common.{flat_map, map, take}
use Rattle.std.specs.Io.KnownBytes.{Appends}
use Rattle.ix_text.specs.Parts.{row_bytes}
use Rattle.ix_vbyte.specs.Code.{code_of}
use Rattle.ix_run_text.specs.Heads.{row_of_doc}
use Rattle.ix_run.proofs.write.put_rows.Given as goal

-- the elements so far are out
abbrev pub invariant-loop-doc : goal.invariant-loop-doc
invariant-loop-doc g l = Appends (g.W.Write.contents l.initial.out) (g.W.Write.contents l.out) (flat_map (row_bytes code_of) (map row_of_doc (take l.doc-index l.docs)))
