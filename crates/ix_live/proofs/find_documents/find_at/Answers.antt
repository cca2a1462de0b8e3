use Rattle.std.proofs.Common.{Some, sym, subst}
use Rattle.std.specs.Prelude.{Option}
use Rattle.ix_file.specs.Opened.{IsIndexOf, Opened}
use Rattle.ix_file.specs.Sections.{FrontCoded}
use Rattle.ix_live.specs.declared.segment.Segment.{Segment}
use Rattle.ix_scan.specs.ScansWithout.{of_documents}
use Rattle.ix_live.specs.Segments.{IsSegmentOf}
use Rattle.ix_live.proofs.find_documents.find_at.Goals as goal

pub returns-in_ok-push_kept-in-Some-clause-found : goal.returns-in_ok-push_kept-in-Some-clause-found
returns-in_ok-push_kept-in-Some-clause-found c = record {
  numbers = c.in_ok-numbers-in-Some.numbers.items;
  gained = rw c.deref.ensures.value at c.in_ok-push_kept-in-Some.ensures;
  scanned = λ stop documents is.
      let of_volume : IsSegmentOf stop (Some c.in-Some.segment.now) documents = subst (λ (place : Option Segment). IsSegmentOf stop place documents) c.in-Some.ensures is in
      c.in_ok-numbers-in-Some.ensures.scan FrontCoded (of_documents stop documents)
      (subst (λ (opened : Opened). IsIndexOf opened FrontCoded (of_documents stop documents)) (sym c.index-index.ensures) of_volume);
}
