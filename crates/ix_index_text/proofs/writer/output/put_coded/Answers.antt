use Rattle.ix_output.proofs.SinkLemmas.{on_err_always}
use Rattle.ix_index_text.proofs.EndingLemmas.{front_more, front_then}
use Rattle.ix_index_text.proofs.SpellLemmas.{spells_behind, all_spelled}
use Rattle.ix_index_text.proofs.writer.output.put_coded.Goals as goal

pub returns-in_err-send-clause-front : goal.returns-in_err-send-clause-front
returns-in_err-send-clause-front g c before text spells = on_err_always _ (front_more _ _ _ _ (c.in_err-send.ensures.front before text spells))

pub returns-in_err-put_all-clause-front : goal.returns-in_err-put_all-clause-front
returns-in_err-put_all-clause-front g c before text spells =
    let sent = c.in_ok-send.ensures.sent before text spells in
    on_err_always _ (front_then _ _ _ _ _ (all_spelled before _ _ text sent c.in_ok-send.ensures.empty) c.in_err-put_all.ensures.front)

pub returns-clause-sent : goal.returns-clause-sent
returns-clause-sent g c before text spells =
    spells_behind before _ _ _ _ text (c.in_ok-send.ensures.sent before text spells) c.in_ok-send.ensures.empty c.in_ok-put_all.ensures.whole
