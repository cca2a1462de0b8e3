use Rattle.std.proofs.Common.{◌<◌, ◌≤◌}
use Rattle.ix_text.specs.Parts.{terms_of}
use Rattle.ix_gram.proofs.Found.{AreFound}
use Rattle.ix_gram.proofs.expanding.matches_in.Given as goal

abbrev pub invariant-loop-number : goal.invariant-loop-number
invariant-loop-number l = AreFound (terms_of l.index.parts.entries) l.pattern (λ n. (l.fn.numbers.start ≤ n) × (n < l.number)) l.found.items
