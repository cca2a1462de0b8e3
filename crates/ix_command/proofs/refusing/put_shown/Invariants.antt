-- the characters so far are out
use Rattle.std.specs.Prelude.{flat_map}
use Rattle.std.specs.Io.KnownBytes.{Appends}
use Rattle.ix_command.specs.Refusals.{shown_char}
use Rattle.ix_command.proofs.refusing.put_shown.Given as goal

abbrev pub invariant-loop-c : goal.invariant-loop-c
invariant-loop-c g l = Appends (g.E.Write.contents l.initial.err) (g.E.Write.contents l.err) (flat_map shown_char l.yielded)
