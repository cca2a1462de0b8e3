use Rattle.std.proofs.Common.{◌∙◌, arith}
use Rattle.ix_query.specs.Marked.{IsMarked}
use Rattle.ix_query.proofs.FindLemmas.{any_place}
use Rattle.ix_query.proofs.PartLemmas.{ok_more, listed_found, numbers_found, gathered_present, gathered_absent, each_found, others_found, one_marked_more, one_of_all}
use Rattle.ix_query.proofs.answers.find.+find.Goals as goal
use Rattle.ix_query.proofs.answers.find.+find.Goals.{find_each-in-Not+in_ok-find+in_ok-push, find_each-in_default+in_ok-find-2+in_ok-push-2}

pub find-returns-in-Phrase : goal.find-returns-in-Phrase
find-returns-in-Phrase t c = rw c.in-Phrase.is (rw c.as_slice.ensures at c.find_phrase.ensures)

pub find-returns-in-Near : goal.find-returns-in-Near
find-returns-in-Near t c = rw c.in-Near.is c.near_or_nothing.ensures

pub find-returns-in_ok-find_matches-in-Pattern : goal.find-returns-in_ok-find_matches-in-Pattern
find-returns-in_ok-find_matches-in-Pattern t c = rw c.in-Pattern.is (listed_found _ _ _ _ c.in_ok-find_matches-in-Pattern.ensures c.list_found.ensures)

pub find-returns-in_ok-find_each-in-And : goal.find-returns-in_ok-find_each-in-And
find-returns-in_ok-find_each-in-And t c = rw c.in-And.is (listed_found _ _ _ _ (rw c.as_slice-in-And.ensures at c.in_ok-find_each-in-And.ensures) c.list_found-in-And.ensures)

pub find-returns-in_ok-find_one-in-Or : goal.find-returns-in_ok-find_one-in-Or
find-returns-in_ok-find_one-in-Or t c = rw c.in-Or.is (listed_found _ _ _ _ (rw c.as_slice-in-Or.ensures at c.in_ok-find_one-in-Or.ensures) c.list_found-in-Or.ensures)

pub find-returns-in_ok-find_others-in-Not : goal.find-returns-in_ok-find_others-in-Not
find-returns-in_ok-find_others-in-Not t c = rw c.in-Not.is (listed_found _ _ _ _ (rw c.get.ensures at c.in_ok-find_others-in-Not.ensures) c.list_found-in-Not.ensures)

pub find_each-loop-part-preserved : goal.find_each-loop-part-preserved
find_each-loop-part-preserved t c = elim c.match-part.branch [
  | find_each-in-Not+in_ok-find+in_ok-push w ↦
      rw (w.present-is, w.absent-is, w.in_ok-push.ensures.items)
      (gathered_absent _ _ c.loop-part.part-index _ _ c.part-item.result w.in-Not.denied _ (omega arith) c.part-item.is w.in-Not.is (rw w.get.ensures at w.in_ok-find.ensures) c.loop-part.invariant)
  | find_each-in_default+in_ok-find-2+in_ok-push-2 w ↦
      rw (w.present-is, w.absent-is, w.in_ok-push-2.ensures.items)
      (gathered_present _ _ c.loop-part.part-index _ _ c.part-item.result _ (omega arith) c.part-item.is w.in_ok-find-2.ensures c.loop-part.invariant)
]

pub find_each-returns : goal.find_each-returns
find_each-returns t c =
    ok_more _ _ _ c.collect.ensures.all (λ numbers all. numbers_found _ _ _ _
    (any_place _ _ _ (each_found c.args.index.now.parts c.args.parts.now c.loop-part.part-index _ _ _ (omega arith) c.loop-part.invariant c.intersect.ensures)) all)

pub find_one-loop-part-preserved : goal.find_one-loop-part-preserved
find_one-loop-part-preserved t c = record {
  marked = one_marked_more c.args.index.now.parts c.args.parts.now c.loop-part.part-index _ (IsMarked c.loop-part.marks) (IsMarked c.mark.new.marks) c.part-item.result c.in_ok-found.found (omega arith) c.part-item.is c.loop-part.invariant.count c.in_ok-found.ensures c.mark.ensures.marked c.loop-part.invariant.marked;
  count = c.mark.ensures.count ∙ c.loop-part.invariant.count;
}

pub find_one-returns : goal.find_one-returns
find_one-returns t c =
    ok_more _ _ _ c.numbers.ensures (λ numbers all. numbers_found _ _ (IsMarked c.loop-part.marks) _ (one_of_all c.args.index.now.parts c.args.parts.now c.loop-part.part-index _ (omega arith) c.loop-part.invariant.marked) all)

pub find_others-returns : goal.find_others-returns
find_others-returns t c =
    let meet = rw (c.new.ensures.items, c.in_ok-push.ensures.items, c.new-absent.ensures.items) at c.intersect.ensures in
    ok_more _ _ _ c.collect.ensures.all (λ numbers all. numbers_found _ _ _ _
    (any_place _ _ _ (others_found c.args.index.now.parts c.args.part.now _ _ c.in_ok-find.ensures meet)) all)
