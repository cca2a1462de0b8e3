-- The names are those in the file.
use Rattle.std.proofs.Common.{inl, inr}
use Rattle.ix_files.proofs.Drafting.{unchanged}
use Rattle.ix_line.specs.declared.removed.Removed.TheVariants.{List as Listed}
use Rattle.ix_command.specs.StoredArchives.{bad_list}
use Rattle.ix_command.proofs.ArchiveLemmas.{not_removed_yet}
use Rattle.ix_command.proofs.FileLemmas.{handed_up}
use Rattle.ix_command.proofs.commands.remove.remove_listed.Goals as goal

pub returns-in_err-text-clause-kept : goal.returns-in_err-text-clause-kept
returns-in_err-text-clause-kept g c = λ _. not_removed_yet _ _ _ _ (g.met.F.Files.only_now c.args.files.now)

pub returns-in_err-text-clause-changes : goal.returns-in_err-text-clause-changes
returns-in_err-text-clause-changes g c = unchanged _ _ (g.met.F.Files.only_now c.args.files.now)

pub returns-in_err-text-clause-refused : goal.returns-in_err-text-clause-refused
returns-in_err-text-clause-refused g c = handed_up _ c.from_residual.result c.in_err-text.field-0.0 c.from_residual.ensures.1 (bad_list (inl c.in_err-text.ensures.refused))

pub returns-in_err-names-clause-kept : goal.returns-in_err-names-clause-kept
returns-in_err-names-clause-kept g c = λ _. not_removed_yet _ _ _ _ (g.met.F.Files.only_now c.args.files.now)

pub returns-in_err-names-clause-changes : goal.returns-in_err-names-clause-changes
returns-in_err-names-clause-changes g c = unchanged _ _ (g.met.F.Files.only_now c.args.files.now)

pub returns-in_err-names-clause-refused : goal.returns-in_err-names-clause-refused
returns-in_err-names-clause-refused g c =
    let why = rw c.deref.ensures.value at c.in_err-names.ensures.refused in
    handed_up _ c.from_residual-in_err-names.result c.in_err-names.field-0.0 c.from_residual-in_err-names.ensures.1
    (bad_list (inr (c.in_ok-text.text.items, c.in_ok-text.ensures.held, why)))

pub returns-clause-removed : goal.returns-clause-removed
returns-clause-removed g c =
    let read = rw c.deref.ensures.value at c.in_ok-names.ensures.read in
    let removed = rw c.deref-2.ensures.value at c.remove_names.ensures.removed in
    removed (Listed c.args.path) (c.in_ok-text.text.items, c.in_ok-text.ensures.held, read)

pub returns-clause-kept : goal.returns-clause-kept
returns-clause-kept g c honest =
    let read = rw c.deref.ensures.value at c.in_ok-names.ensures.read in
    let kept = rw c.deref-2.ensures.value at c.remove_names.ensures.kept in
    kept honest (Listed c.args.path) (c.in_ok-text.text.items, c.in_ok-text.ensures.held, read)

pub returns-clause-changes : goal.returns-clause-changes
returns-clause-changes g c = c.remove_names.ensures.changes

pub returns-clause-refused : goal.returns-clause-refused
returns-clause-refused g c = c.remove_names.ensures.refused (Listed c.args.path)
