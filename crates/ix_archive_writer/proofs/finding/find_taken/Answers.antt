use Rattle.std.proofs.lemmas.Result.{IfOk-weaker}
use Rattle.ix_archive_writer.specs.Changes.{texts_in}
use Rattle.ix_archive_writer.proofs.FindingLemmas.{asks_for}
use Rattle.ix_archive_writer.proofs.finding.find_taken.Goals as goal

pub returns-clause-found : goal.returns-clause-found
returns-clause-found g c =
    IfOk-weaker c.find_asked.result _ _ (λ found told honest stop texts lists of kept.
    let taken = told honest stop texts lists of kept in
    (c.in_ok-asked.asked, asks_for (texts_in c.args.names.now) _ c.in_ok-asked.asked c.new-none.ensures c.in_ok-asked.ensures, taken.0, taken.1))
    c.find_asked.ensures.found
