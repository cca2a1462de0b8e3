use Rattle.ix_output.proofs.SinkLemmas.{on_err_always}
use Rattle.ix_index_text.proofs.SectionLemmas.{appended-more, appended-begun}
use Rattle.ix_index_text.proofs.writer.grams.append_lists.Goals as goal

pub loop-gram-preserved : goal.loop-gram-preserved
loop-gram-preserved c =
    appended-more c.args.out.now.items c.args.lists.now.entries c.loop-gram.gram-iterator c.next.new.self c.loop-gram.out.items c.append_entry.new.out.items c.in-Some.gram.now c.in-Some.list.now
    c.loop-gram.invariant c.in-Some.ensures.steps c.in_ok-append_entry.ensures.ok

pub returns-in_err-append_entry-clause-err : goal.returns-in_err-append_entry-clause-err
returns-in_err-append_entry-clause-err c =
    on_err_always _ (appended-begun c.args.out.now.items c.args.lists.now.entries c.loop-gram.gram-iterator c.loop-gram.out.items c.append_entry.new.out.items c.loop-gram.invariant c.in_err-append_entry.ensures.err)
