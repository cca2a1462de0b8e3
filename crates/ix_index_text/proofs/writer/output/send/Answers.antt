use Rattle.std.proofs.Common.{◌≡◌}
use Rattle.ix_output.proofs.SinkLemmas.{on_err_always}
use Rattle.ix_index_text.proofs.SpellLemmas.{spells_sent, spells_front}
use Rattle.ix_index_text.proofs.writer.output.send.Goals as goal

pub returns-in_err-put_all-clause-front : goal.returns-in_err-put_all-clause-front
returns-in_err-put_all-clause-front g c before text spells =
    let pending : c.as_slice.result.now ≡ c.args.sections.now.pending.items = cc in
    on_err_always _ (spells_front before _ _ _ text spells (rw pending at c.in_err-put_all.ensures.front))

pub returns-clause-sent : goal.returns-clause-sent
returns-clause-sent g c before text spells =
    let pending : c.as_slice.result.now ≡ c.args.sections.now.pending.items = cc in
    spells_sent before _ _ _ _ text spells (rw pending at c.in_ok-put_all.ensures.whole) c.clear.ensures.items
