-- the files so far were opened
use Rattle.ix_line.specs.Lines.{texts_of}
use Rattle.ix_command.specs.MergeInputs.{AreOpened}
use Rattle.ix_files.specs.Reading.{held_in}
use Rattle.ix_command.proofs.commands.merge.inputs.open_all.Given as goal

abbrev pub invariant-loop-place : goal.invariant-loop-place
invariant-loop-place g l = AreOpened (held_in (g.F.Files.view l.files)) g.F.Reader.Read.remaining (texts_of l.paths) l.inputs l.place
