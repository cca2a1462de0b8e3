use Rattle.ix_output.proofs.SinkLemmas.{on_err_always, appends_then}
use Rattle.ix_index_text.proofs.EndingLemmas.{front_more, front_then}
use Rattle.ix_index_text.proofs.writer.output.put_tail.Goals as goal

pub returns-in_err-put_all-clause-front : goal.returns-in_err-put_all-clause-front
returns-in_err-put_all-clause-front g c =
    on_err_always _ (front_more _ _ _ _ (front_more _ _ _ _ (front_more _ _ _ _ (rw c.as_slice.ensures.value at c.in_err-put_all.ensures.front))))

pub returns-in_err-put_all-2-clause-front : goal.returns-in_err-put_all-2-clause-front
returns-in_err-put_all-2-clause-front g c =
    on_err_always _ (front_more _ _ _ _ (front_more _ _ _ _ (front_then _ _ _ _ _ (rw c.as_slice.ensures.value at c.in_ok-put_all.ensures.whole) (rw c.as_slice-2.ensures.value at c.in_err-put_all-2.ensures.front))))

pub returns-in_err-put_all-3-clause-front : goal.returns-in_err-put_all-3-clause-front
returns-in_err-put_all-3-clause-front g c =
    on_err_always _ (front_more _ _ _ _
    (front_then _ _ _ _ _ (appends_then _ _ _ _ _ (rw c.as_slice.ensures.value at c.in_ok-put_all.ensures.whole) (rw c.as_slice-2.ensures.value at c.in_ok-put_all-2.ensures.whole))
    (rw c.as_slice-3.ensures.value at c.in_err-put_all-3.ensures.front)))

pub returns-in_err-put_all-4-clause-front : goal.returns-in_err-put_all-4-clause-front
returns-in_err-put_all-4-clause-front g c =
    on_err_always _ (front_then _ _ _ _ _
    (appends_then _ _ _ _ _ (appends_then _ _ _ _ _ (rw c.as_slice.ensures.value at c.in_ok-put_all.ensures.whole) (rw c.as_slice-2.ensures.value at c.in_ok-put_all-2.ensures.whole))
    (rw c.as_slice-3.ensures.value at c.in_ok-put_all-3.ensures.whole))
    c.in_err-put_all-4.ensures.front)
