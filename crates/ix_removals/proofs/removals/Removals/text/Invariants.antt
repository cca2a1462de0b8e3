use Rattle.std.proofs.Common.{◌≡◌, ◌++◌, string_bytes}
use Rattle.ix_removals.specs.RemovalEntries.{removals_of}
use Rattle.ix_removals.specs.RemovalsText.{removals_text}
use Rattle.ix_removals.proofs.removals.Removals.text.Given as goal

abbrev pub invariant-loop-name : goal.invariant-loop-name
invariant-loop-name l = string_bytes l.text ++ removals_text (removals_of l.name-iterator) ≡ removals_text l.self
