use Rattle.std.proofs.Common.{flat_map, map, string_bytes, take}
use Rattle.std.specs.Io.KnownBytes.{Appends}
use Rattle.ix_vbyte.specs.Texts.{counted}
use Rattle.ix_run.proofs.write.put_texts.Given as goal

-- the texts so far are out
abbrev pub invariant-loop-text : goal.invariant-loop-text
invariant-loop-text g l = Appends (g.W.Write.contents l.initial.out) (g.W.Write.contents l.out) (flat_map counted (map string_bytes (take l.text-index l.texts)))
