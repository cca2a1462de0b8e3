-- The list that the part gave is the one that the source gave.
use Rattle.std.proofs.lemmas.Result.{IfOk-weaker}
use Rattle.ix_merge.proofs.Enclosed.{encloses_list}
use Rattle.ix_merge.specs.AnySources.{SourceHasGiven, SourceMayYield}
use Rattle.ix_merge.specs.declared.any_source.AnySource.TheVariants.{Run, Index}
use Rattle.ix_merge.proofs.any_source.AnySourceSource.take_list.Goals as goal

pub returns-in-Run-clause-given : goal.returns-in-Run-clause-given
returns-in-Run-clause-given g c =
    rw c.in-Run.is
    (IfOk-weaker c.take_list.result _ _
    (λ listed. encloses_list Run (SourceMayYield g.R.Read.remaining) SourceHasGiven c.in-Run.run' c.take_list.new.self _ _ listed.documents listed.next _ _)
    c.take_list.ensures.given)

pub returns-in-Run-clause-no_more_faults : goal.returns-in-Run-clause-no_more_faults
returns-in-Run-clause-no_more_faults g c = rw c.in-Run.is c.take_list.ensures.no_more_faults

pub returns-in-Run-clause-sure : goal.returns-in-Run-clause-sure
returns-in-Run-clause-sure g c = rw c.in-Run.is c.take_list.ensures.sure

pub returns-in-Ok-clause-given : goal.returns-in-Ok-clause-given
returns-in-Ok-clause-given g c =
    rw c.in-Index.is (encloses_list Index (SourceMayYield g.R.Read.remaining) SourceHasGiven c.in-Index.index c.take_list-in-Index.new.self _ _ c.in-Ok.listed.documents c.in-Ok.listed.next _ _ c.in-Ok.ensures.given)
