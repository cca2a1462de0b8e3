-- What begins neither as a run nor as an index is told as no run.
use Rattle.std.proofs.Common.{inl, subst, sym}
use Rattle.ix_run.specs.RunTextError.TheVariants.{Magic}
use Rattle.ix_command.specs.MergedRuns.{RefusesInput, no_head}
use Rattle.ix_files.specs.Reading.{held_in}
use Rattle.ix_command.proofs.commands.merge.inputs.open_volume.Goals as goal

pub returns-then-is_no_index-clause-refused : goal.returns-then-is_no_index-clause-refused
returns-then-is_no_index-clause-refused g c =
    subst (RefusesInput (held_in (g.F.Files.view c.args.files.now)) c.args.path.now c.args.place) (sym c.refusal_at.ensures) (inl (no_head Magic c.requires))
