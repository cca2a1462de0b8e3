use Rattle.ix_folder.proofs.Laws.{narrowed}
use Rattle.ix_archive_writer.proofs.Going.{then_leaves}
use Rattle.ix_archive_writer.proofs.OpeningLemmas.{among_both, among_more}
use Rattle.ix_files.proofs.Drafting.{changed_again}
use Rattle.ix_archive_writer.proofs.new_documents.add_in.Goals as goal

pub returns-in_err-lock-clause-any_moment : goal.returns-in_err-lock-clause-any_moment
returns-in_err-lock-clause-any_moment g c honest among now named leaves at =
    narrowed (among_more c.args.folder.now _ among) (c.open.ensures.any_moment honest among now named leaves at)

pub returns-clause-any_moment : goal.returns-clause-any_moment
returns-clause-any_moment g c honest among now named leaves at =
    let opened = c.add_to-result.ensures.goes_on.honest honest in
    then_leaves (narrowed (among_more c.args.folder.now _ among) (c.open.ensures.any_moment opened among now named leaves at))
    (narrowed (λ left is. among_both c.args.folder.now _ now among left named is) (c.add_to-result.ensures.any_moment honest now (c.in_ok-lock.ensures.found opened now at)))

pub returns-clause-changes : goal.returns-clause-changes
returns-clause-changes g c = changed_again c.open.ensures.changes c.add_to-result.ensures.changes c.add_to-result.ensures.goes_on.honest
