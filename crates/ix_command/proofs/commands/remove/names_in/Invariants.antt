-- the lines so far that are not empty
use Rattle.std.proofs.Common.{◌≡◌}
use Rattle.std.specs.Prelude.{filter, map}
use Rattle.ix_line.specs.Lines.{texts_of}
use Rattle.ix_command.specs.StoredArchives.{is_some_name}
use Rattle.ix_command.proofs.commands.remove.names_in.Given as goal

abbrev pub invariant-loop-name : goal.invariant-loop-name
invariant-loop-name l = texts_of l.names.items ≡ filter is_some_name (texts_of l.yielded)
