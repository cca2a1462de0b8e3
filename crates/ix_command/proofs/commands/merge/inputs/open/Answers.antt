-- What the reader tells is what the file holds.
use Rattle.std.proofs.Common.{◌∙◌, Err, ap, inl, subst, sym}
use Rattle.ix_run.specs.RunTextError.TheVariants.{Magic}
use Rattle.ix_command.specs.MergedRuns.{RefusesInput, no_head}
use Rattle.ix_files.proofs.Fronts.{told_held, untold_held}
use Rattle.ix_command.proofs.RunFileLemmas.{is_other_or_not, opened, refused}
use Rattle.ix_files.specs.Reading.{held_in}
use Rattle.ix_command.proofs.commands.merge.inputs.open.Goals as goal

pub returns-in-Ok-open-clause-opened : goal.returns-in-Ok-open-clause-opened
returns-in-Ok-open-clause-opened g c =
    opened _ g.F.Reader.Read.remaining c.in-Ok.reader (untold_held _ _ _ c.in-Ok.ensures.opened) (told_held _ _ _ c.in-Ok.ensures.opened)
    c.in-Ok-open.run' _ c.in-Ok-open.ensures.unread c.in-Ok-open.ensures.lawful c.in-Ok-open.ensures.taken c.in-Ok-open.ensures.yields

pub open_volume-requires-after_bounds : goal.open_volume-requires-after_bounds
open_volume-requires-after_bounds g c κs within =
    refused _ g.F.Reader.Read.remaining c.in-Ok.reader (untold_held _ _ _ c.in-Ok.ensures.opened) (told_held _ _ _ c.in-Ok.ensures.opened)
    _ c.open-2.result Magic (c.in-Err-Magic.is ∙ ap Err c.in-Err-Magic.field-0-is) c.open-2.ensures.accepted (is_other_or_not Magic)

pub returns-in-Err-open : goal.returns-in-Err-open
returns-in-Err-open g c = record {
  opened = tt;
  refused =
      subst (RefusesInput (held_in (g.F.Files.view c.args.files.now)) c.args.path.now c.args.place) (sym c.refusal_at.ensures)
      (inl (no_head c.in-Err-open.error (refused _ g.F.Reader.Read.remaining c.in-Ok.reader (untold_held _ _ _ c.in-Ok.ensures.opened) (told_held _ _ _ c.in-Ok.ensures.opened)
      _ c.open-2.result c.in-Err-open.error c.in-Err-open.is c.open-2.ensures.accepted (is_other_or_not c.in-Err-open.error))));
}
