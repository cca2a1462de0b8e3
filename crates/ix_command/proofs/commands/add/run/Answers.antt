-- What was read of the collection file are the documents of the whole file.
use Rattle.std.proofs.Common.{sym}
use Rattle.ix_files.proofs.Drafting.{unchanged}
use Rattle.ix_command.specs.StoredArchives.{bad_documents, bad_stop_list, not_added, unread_documents}
use Rattle.ix_command.proofs.ArchiveLemmas.{adds, given_held, keeps_added, not_added_yet}
use Rattle.ix_command.proofs.BuildLemmas.{documents_of_files, refuses_documents_whole}
use Rattle.ix_command.proofs.FileLemmas.{handed_up}
use Rattle.ix_command.proofs.commands.add.run.Goals as goal

pub returns-in_err-list-clause-kept : goal.returns-in_err-list-clause-kept
returns-in_err-list-clause-kept g c = λ _. not_added_yet _ _ _ _ _ (g.met.F.Files.only_now c.args.files.now)

pub returns-in_err-list-clause-changes : goal.returns-in_err-list-clause-changes
returns-in_err-list-clause-changes g c = unchanged _ _ (g.met.F.Files.only_now c.args.files.now)

pub returns-in_err-list-clause-refused : goal.returns-in_err-list-clause-refused
returns-in_err-list-clause-refused g c = handed_up _ c.from_residual.result c.in_err-list.field-0.0 c.from_residual.ensures.1 (bad_stop_list c.in_err-list.ensures.refused)

pub returns-in_err-text-clause-kept : goal.returns-in_err-text-clause-kept
returns-in_err-text-clause-kept g c = λ _. not_added_yet _ _ _ _ _ (g.met.F.Files.only_now c.args.files.now)

pub returns-in_err-text-clause-changes : goal.returns-in_err-text-clause-changes
returns-in_err-text-clause-changes g c = unchanged _ _ (g.met.F.Files.only_now c.args.files.now)

pub returns-in_err-text-clause-refused : goal.returns-in_err-text-clause-refused
returns-in_err-text-clause-refused g c = handed_up _ c.from_residual-in_err-text.result c.in_err-text.field-0.0 c.from_residual-in_err-text.ensures.1 (unread_documents c.in_err-text.ensures.refused)

pub returns-in_err-documents-clause-kept : goal.returns-in_err-documents-clause-kept
returns-in_err-documents-clause-kept g c = λ _. not_added_yet _ _ _ _ _ (g.met.F.Files.only_now c.args.files.now)

pub returns-in_err-documents-clause-changes : goal.returns-in_err-documents-clause-changes
returns-in_err-documents-clause-changes g c = unchanged _ _ (g.met.F.Files.only_now c.args.files.now)

pub returns-in_err-documents-clause-refused : goal.returns-in_err-documents-clause-refused
returns-in_err-documents-clause-refused g c =
    let refused = rw c.deref.ensures.value at c.in_err-documents.ensures.refused in
    let front = c.in_ok-text.ensures.front in
    handed_up _ c.from_residual-in_err-documents.result c.in_err-documents.field-0.0 c.from_residual-in_err-documents.ensures.1
    (bad_documents front.whole front.held (refuses_documents_whole _ front.whole _ front.cut refused))

pub returns-in-Ok-clause-added : goal.returns-in-Ok-clause-added
returns-in-Ok-clause-added g c =
    let read = rw c.deref.ensures.value at c.in_ok-documents.ensures.read in
    let of_files = documents_of_files _ _ _ _ _ _ c.in_ok-text.ensures.front c.in_ok-list.ensures.held read in
    let done = rw (given_held _ _ _ _ c.given-given.ensures.named c.given-given.ensures.none c.in_ok-list.ensures.held) at c.in-Ok.ensures.done in
    adds _ _ _ _ (g.F.Files.view c.args.files.now) (g.F.Files.view c.add.new.files) _ c.in_ok-documents.documents of_files done

pub returns-in-Ok-clause-kept : goal.returns-in-Ok-clause-kept
returns-in-Ok-clause-kept g c honest =
    let read = rw c.deref.ensures.value at c.in_ok-documents.ensures.read in
    let of_files = documents_of_files _ _ _ _ _ _ c.in_ok-text.ensures.front c.in_ok-list.ensures.held read in
    let moments = rw (given_held _ _ _ _ c.given-given.ensures.named c.given-given.ensures.none c.in_ok-list.ensures.held) at c.add.ensures.any_moment in
    keeps_added _ _ _ _ _ _ _ c.in_ok-documents.documents of_files (moments honest)

pub returns-clause-kept : goal.returns-clause-kept
returns-clause-kept g c honest =
    let read = rw c.deref.ensures.value at c.in_ok-documents.ensures.read in
    let of_files = documents_of_files _ _ _ _ _ _ c.in_ok-text.ensures.front c.in_ok-list.ensures.held read in
    let moments = rw (given_held _ _ _ _ c.given-given.ensures.named c.given-given.ensures.none c.in_ok-list.ensures.held) at c.add.ensures.any_moment in
    keeps_added _ _ _ _ _ _ _ c.in_ok-documents.documents of_files (moments honest)

pub returns-clause-refused : goal.returns-clause-refused
returns-clause-refused g c = not_added c.in-Err.error c.of_change.ensures
