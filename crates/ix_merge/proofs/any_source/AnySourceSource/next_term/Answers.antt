-- What the part did is what the source did.
use Rattle.std.proofs.Common.{◌≡◌, Some, None}
use Rattle.std.proofs.lemmas.Result.{IfOk-weaker}
use Rattle.ix_run.specs.Reading.{IsEnded, term_of}
use Rattle.ix_run.specs.RunSources.{IsAtEnd}
use Rattle.ix_merge.proofs.Enclosed.{encloses_term}
use Rattle.ix_merge.specs.AnySources.{SourceHasGiven, SourceIsDrained, SourceMayYield}
use Rattle.ix_merge.specs.declared.any_source.AnySource.TheVariants.{Run, Index}
use Rattle.ix_merge.proofs.any_source.AnySourceSource.next_term.Goals as goal

pub returns-in-Run-clause-begun : goal.returns-in-Run-clause-begun
returns-in-Run-clause-begun g c =
    let new = c.next_term.new.self in
    rw c.in-Run.is
    (IfOk-weaker c.next_term.result _ _
    (λ more. encloses_term Run (SourceMayYield g.R.Read.remaining) SourceHasGiven SourceIsDrained (λ term. term_of new ≡ Some term) (term_of new ≡ None) (IsEnded new) c.in-Run.run' new more)
    c.next_term.ensures.begun)

pub returns-in-Run-clause-no_more_faults : goal.returns-in-Run-clause-no_more_faults
returns-in-Run-clause-no_more_faults g c = rw c.in-Run.is c.next_term.ensures.no_more_faults

pub returns-in-Run-clause-sure : goal.returns-in-Run-clause-sure
returns-in-Run-clause-sure g c = rw c.in-Run.is c.next_term.ensures.sure

pub returns-in-Ok-clause-begun : goal.returns-in-Ok-clause-begun
returns-in-Ok-clause-begun g c =
    let new = c.next_term-in-Index.new.self in
    rw c.in-Index.is
    (encloses_term Index (SourceMayYield g.R.Read.remaining) SourceHasGiven SourceIsDrained (λ term. new.term ≡ Some term) (new.term ≡ None) (IsAtEnd new) c.in-Index.index new c.in-Ok.more c.in-Ok.ensures.begun)
