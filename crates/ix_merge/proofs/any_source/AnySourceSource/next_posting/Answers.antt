-- What the part did is what the source did.
use Rattle.std.proofs.lemmas.Result.{IfOk-weaker}
use Rattle.ix_run.specs.Reading.{IsDrained}
use Rattle.ix_run.specs.RunSources.{IsAtEndOfTerm}
use Rattle.ix_merge.proofs.Enclosed.{encloses_posting}
use Rattle.ix_merge.specs.AnySources.{SourceHasGiven, SourceMayYield}
use Rattle.ix_merge.specs.declared.any_source.AnySource.TheVariants.{Run, Index}
use Rattle.ix_merge.proofs.any_source.AnySourceSource.next_posting.Goals as goal

pub returns-in-Run-clause-given : goal.returns-in-Run-clause-given
returns-in-Run-clause-given g c =
    let after = c.next_posting.new in
    rw c.in-Run.is
    (IfOk-weaker c.next_posting.result _ _
    (λ found. encloses_posting Run (SourceMayYield g.R.Read.remaining) SourceHasGiven (IsDrained after.self) c.in-Run.run' after.self after.positions.items found)
    c.next_posting.ensures.given)

pub returns-in-Run-clause-no_more_faults : goal.returns-in-Run-clause-no_more_faults
returns-in-Run-clause-no_more_faults g c = rw c.in-Run.is c.next_posting.ensures.no_more_faults

pub returns-in-Run-clause-sure : goal.returns-in-Run-clause-sure
returns-in-Run-clause-sure g c = rw c.in-Run.is c.next_posting.ensures.sure

pub returns-in-Ok-clause-given : goal.returns-in-Ok-clause-given
returns-in-Ok-clause-given g c =
    let after = c.next_posting-in-Index.new in
    rw c.in-Index.is (encloses_posting Index (SourceMayYield g.R.Read.remaining) SourceHasGiven (IsAtEndOfTerm after.self) c.in-Index.index after.self after.positions.items c.in-Ok.found c.in-Ok.ensures.given)
