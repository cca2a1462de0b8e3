use Rattle.std.proofs.Common.{arith}
use Rattle.ix_live.proofs.FoundLemmas.{few_at, first_more, found_at}
use Rattle.ix_live.proofs.find_documents.find_documents.Goals as goal

pub find_at-requires-clause-few : goal.find_at-requires-clause-few
find_at-requires-clause-few c =
    omega (arith, c.requires.few, few_at c.args.segments.now c.loop-slot.first c.loop-slot.slot-index c.slot-item.result c.loop-slot-test.true c.slot-item.is c.loop-slot.invariant.first)

pub overflow_add-first : goal.overflow_add-first
overflow_add-first c =
    omega (arith, c.requires.few, c.in_ok-first.ensures.count, few_at c.args.segments.now c.loop-slot.first c.loop-slot.slot-index c.slot-item.result c.loop-slot-test.true c.slot-item.is c.loop-slot.invariant.first)

pub loop-slot-preserved : goal.loop-slot-preserved
loop-slot-preserved c =
    let segments = c.args.segments.now in
    let i = c.loop-slot.slot-index in
    let slot = c.slot-item.result in
    record {
      first = first_more segments c.loop-slot.first c.in_ok-first.field-0 i slot c.loop-slot-test.true c.slot-item.is c.loop-slot.invariant.first c.in_ok-first.ensures.count;
      found =
          found_at segments c.loop-slot.first i slot c.args.removed.now c.args.query.now c.loop-slot.found.items c.find_at.new.found.items c.loop-slot-test.true c.slot-item.is
          c.loop-slot.invariant.first c.loop-slot.invariant.found c.in_ok-first.ensures.found;
    }
