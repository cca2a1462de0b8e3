use Rattle.std.proofs.Common.{◌≡◌, map, string_bytes, take}
use Rattle.ix_text.proofs.stop.StopList.copy.Given as goal

-- the terms so far
abbrev pub invariant-loop-term : goal.invariant-loop-term
invariant-loop-term l = map string_bytes l.terms.items ≡ map string_bytes (take l.term-index l.given)
