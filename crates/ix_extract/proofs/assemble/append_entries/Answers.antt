use Rattle.ix_extract.proofs.ListLemmas.{dictionary_none, dictionary_more}
use Rattle.ix_extract.proofs.assemble.append_entries.Goals as goal

pub loop-one-init : goal.loop-one-init
loop-one-init c = dictionary_none c.args.found.now c.args.out.now.items

pub loop-one-preserved : goal.loop-one-preserved
loop-one-preserved c =
    dictionary_more c.args.found.now c.loop-one.one-index c.one-item.result _ _ _ c.loop-one-test.true c.one-item.is c.loop-one.invariant c.in_ok-append_entry.ensures
