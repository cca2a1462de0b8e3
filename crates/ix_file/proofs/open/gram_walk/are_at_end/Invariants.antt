use Rattle.std.proofs.Common.{All, take}
use Rattle.ix_file.specs.GramWalks.{IsAtEnd}
use Rattle.ix_file.proofs.open.gram_walk.are_at_end.Given as goal

abbrev pub invariant-loop-cursor : goal.invariant-loop-cursor
invariant-loop-cursor l = All IsAtEnd (take l.cursor-index l.cursors)
