use Rattle.std.proofs.Common.{arith}
use Rattle.ix_extract.proofs.ListLemmas.{lists_more, lists_none}
use Rattle.ix_extract.proofs.assemble.append_lists.Goals as goal

pub loop-one-init : goal.loop-one-init
loop-one-init g c = record { lists = λ bytes known. lists_none bytes c.args.out.now.items c.args.found.now; longer = omega arith }

pub loop-one-preserved : goal.loop-one-preserved
loop-one-preserved g c = record {
  lists = λ bytes known.
      lists_more bytes c.args.found.now c.loop-one.one-index c.one-item.result _ _ _ c.loop-one-test.true c.one-item.is (c.loop-one.invariant.lists bytes known) (c.in_ok-append_at.ensures.told bytes known);
  longer = omega (arith, c.loop-one.invariant.longer, c.in_ok-append_at.ensures.sized);
}
