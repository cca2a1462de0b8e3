use Rattle.std.proofs.Common.{All, take}
use Rattle.ix_text.specs.Collections.{IsName}
use Rattle.ix_removals.proofs.reading.are_names.Given as goal

abbrev pub invariant-loop-name : goal.invariant-loop-name
invariant-loop-name l = All (λ name. IsName name.now) (take l.name-index l.names)
