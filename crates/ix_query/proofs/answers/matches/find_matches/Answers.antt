use Rattle.std.proofs.Common.{sym, ◌∙◌, arith}
use Rattle.std.proofs.lemmas.Option.{slice_get-get_or}
use Rattle.ix_query.specs.Marked.{IsMarked}
use Rattle.ix_query.proofs.MatchLemmas.{listed_none, listed_more, matches_found}
use Rattle.ix_query.proofs.PartLemmas.{ok_more, numbers_found}
use Rattle.ix_query.proofs.answers.matches.find_matches.Goals as goal

pub loop-number-init : goal.loop-number-init
loop-number-init c = record {
  marked = listed_none _ _ _ (IsMarked c.in_ok-marks.marks) c.in_ok-marks.ensures.none;
  count = c.in_ok-marks.ensures.count ∙ c.doc_count.ensures.count;
}

pub loop-number-preserved : goal.loop-number-preserved
loop-number-preserved c = record {
  marked = rw c.mark_documents.ensures.count
      (listed_more c.args.index.now.parts.entries c.deref-number-items.result.now c.loop-number.marks.count c.loop-number.number-index _ c.list.result (IsMarked c.loop-number.marks) (IsMarked c.mark_documents.new.marks)
      (slice_get-get_or c.deref-number-items.result.now c.loop-number.number-index 0 (omega arith)) c.list.ensures c.mark_documents.ensures.marked c.loop-number.invariant.marked);
  count = c.mark_documents.ensures.count ∙ c.loop-number.invariant.count;
}

pub returns : goal.returns
returns c = ok_more _ _ _ c.numbers.ensures (λ found all.
    numbers_found _ _ (IsMarked c.loop-number.marks) _
    (matches_found c.args.index.now.parts c.args.pattern.now c.deref-number-items.result.now c.loop-number.marks.count c.loop-number.number-index (IsMarked c.loop-number.marks)
    (rw (sym c.deref-number-items.ensures.value) at c.in_ok-numbers.ensures.matches) c.loop-number.invariant.count (omega arith) c.loop-number.invariant.marked)
    all)
