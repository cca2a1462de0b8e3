use Rattle.std.proofs.Common.{take}
use Rattle.std.specs.Prelude.{Contains}
use Rattle.ix_text.specs.Parts.{terms_of}
use Rattle.ix_gram.proofs.Found.{AreFound}
use Rattle.ix_gram.proofs.expanding.matches_among.Given as goal

abbrev pub invariant-loop-number : goal.invariant-loop-number
invariant-loop-number l = AreFound (terms_of l.index.parts.entries) l.pattern (Contains (take l.number-index l.numbers)) l.found.items
