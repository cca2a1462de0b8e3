use Rattle.std.proofs.Common.{Contains}
use Rattle.std.proofs.lemmas.Result.{IfOk-weaker}
use Rattle.ix_text.specs.Collections.{IsName}
use Rattle.ix_archive_writer.specs.Changes.{texts_in}
use Rattle.ix_archive_writer.proofs.LawfulNames.{removed_by_same}
use Rattle.ix_archive_writer.proofs.removals.removals_with.Goals as goal

pub returns : goal.returns
returns c =
    IfOk-weaker c.with.result _ _ (λ removals exact.
    removed_by_same c.args.removed.now removals (texts_in c.as_slice.result.now) (λ name. Contains (texts_in c.args.names.now) name × IsName name) c.args.below (rw c.as_slice.ensures.value c.in_ok-lawful.ensures.same) exact)
    c.with.ensures
