-- The collection that was opened is the one that was saved.
use Rattle.std.proofs.Common.{inl, inr}
use Rattle.std.proofs.lemmas.Result.{on_err_weaker, on_ok_weaker}
use Rattle.ix_command.specs.Refusals.{IsUnsaved}
use Rattle.ix_command.specs.Upgrades.{no_index, unsaved}
use Rattle.ix_command.proofs.FileLemmas.{err_weaker, handed_up}
use Rattle.ix_command.proofs.commands.upgrade.run.Goals as goal

pub returns-in_err-volume-clause-refused : goal.returns-in_err-volume-clause-refused
returns-in_err-volume-clause-refused g c = handed_up _ c.from_residual.result c.in_err-volume.field-0.0 c.from_residual.ensures.1 (no_index c.in_err-volume.ensures.refused)

pub returns-clause-upgraded : goal.returns-clause-upgraded
returns-clause-upgraded g c =
    let opened = c.in_ok-volume.ensures.opened in
    on_ok_weaker c.save.result (λ saved. record { version = opened.version; collection = opened.collection; held = opened.held; saved = saved })
    (c.save.ensures.saved opened.version opened.collection opened.index)

pub returns-clause-refused : goal.returns-clause-refused
returns-clause-refused g c =
    let opened = c.in_ok-volume.ensures.opened in
    err_weaker c.save.result (IsUnsaved c.args.new.now) _ (λ told is. unsaved opened.version opened.collection opened.held is) c.save.ensures.refused

pub returns-clause-undone : goal.returns-clause-undone
returns-clause-undone g c =
    let opened = c.in_ok-volume.ensures.opened in
    on_err_weaker c.save.result (λ undone honest. elim (undone honest) [
      | inl same ↦ inl same
      | inr saved ↦ inr (record { version = opened.version; collection = opened.collection; held = opened.held; saved = saved })
    ])
    (c.save.ensures.undone opened.version opened.collection opened.index)
