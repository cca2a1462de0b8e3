use Rattle.std.proofs.Common.{Result, Ok, Err, OnOk, arith}
use Rattle.std.proofs.lemmas.Result.{on_ok_weaker}
use Rattle.ix_merge.proofs.GatheredLists.{gathered_front, gathered_none}
use Rattle.ix_merge.proofs.pending_entry.PendingEntry.send_if_full.Goals as goal

-- what two clauses of a call say together where it is Ok
on_ok_both : {T E : Type 0} (result : Result T E) (A B C : Type 0) → OnOk result A → OnOk result B → (A → B → C) → OnOk result C
on_ok_both (Ok x) A B C a b then = then a b
on_ok_both (Err e) A B C a b then = tt

pub returns-then-len-lt-FULL-clause-front : goal.returns-then-len-lt-FULL-clause-front
returns-then-len-lt-FULL-clause-front g c before told has = gathered_front g.W.Write.contents before c.args.writer.now c.args.self.now told has

pub returns-clause-told : goal.returns-clause-told
returns-clause-told g c before told has =
    on_ok_both c.send.result _ _ _ c.send.ensures.nothing (c.send.ensures.told before told has)
    (λ nothing was. gathered_none g.W.Write.contents before c.send.new.writer c.send.new.self told nothing was)

pub returns-clause-few : goal.returns-clause-few
returns-clause-few g c = on_ok_weaker c.send.result (λ nothing. rw nothing.list (omega arith)) c.send.ensures.nothing
