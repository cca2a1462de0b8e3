use Rattle.std.proofs.lemmas.Result.{err_from_is_err_and}
use Rattle.ix_query_text.proofs.Entries.{fault_at, entries_read, entries_more, short_more}
use Rattle.ix_query_text.proofs.judge.entries.Goals as goal

pub returns-in_err-entry : goal.returns-in_err-entry
returns-in_err-entry c =
    let p = err_from_is_err_and c.from_residual.result c.from_residual.ensures.1 in
    rw (p.1, p.2) (fault_at _ _ _ _ _ c.loop-word-test.true c.in_err-entry.ensures)

pub loop-word-preserved : goal.loop-word-preserved
loop-word-preserved c = record {
  entries = entries_more _ _ _ _ _ _ _ c.loop-word-test.true c.loop-word.invariant.entries c.in_ok-push.ensures.items c.in_ok-entry.ensures;
  short = short_more _ _ _ _ _ c.loop-word-test.true c.loop-word.invariant.short c.in_ok-entry.ensures;
}

pub returns : goal.returns
returns c = entries_read _ _ _ _ c.loop-word-test.false c.loop-word.invariant.entries c.loop-word.invariant.short
