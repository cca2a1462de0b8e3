-- the files so far were looked at, and no more of them have a fault
use Rattle.std.proofs.Common.{◌≤◌, take}
use Rattle.ix_line.specs.Lines.{texts_of}
use Rattle.ix_files.specs.Reading.{held_in}
use Rattle.ix_command.specs.CheckedFiles.{AreLookedAt}
use Rattle.ix_command.proofs.commands.check.find_faults.Given as goal

abbrev pub invariant-loop-path : goal.invariant-loop-path
invariant-loop-path g l = record {
  looked_at : AreLookedAt (held_in (g.F.Files.view l.files)) (texts_of (take l.path-index l.paths)) l.lines.bytes.items l.lines.count;
  few : l.lines.count ≤ l.path-index;
}
