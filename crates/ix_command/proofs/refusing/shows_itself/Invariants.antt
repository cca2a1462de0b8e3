-- the characters so far show themselves
use Rattle.std.proofs.Common.{◌≡◌}
use Rattle.std.specs.Prelude.{encode_utf8, flat_map}
use Rattle.ix_command.specs.Refusals.{shown_char}
use Rattle.ix_command.proofs.refusing.shows_itself.Given as goal

abbrev pub invariant-loop-c : goal.invariant-loop-c
invariant-loop-c l = flat_map shown_char l.yielded ≡ flat_map encode_utf8 l.yielded
