use Rattle.ix_output.proofs.SinkLemmas.{on_err_always}
use Rattle.ix_text.specs.Parts.{terms_of}
use Rattle.ix_index_text.specs.Told.{entries_of, settled_front}
use Rattle.ix_index_text.proofs.EndingLemmas.{closed, front_of_spelled, front_of_layout, front_of_tail, front_of_finished, finished, finished_keeps, spells_on, ending_kept}
use Rattle.ix_index_text.proofs.writer.output.complete.Goals as goal

pub ending-requires : goal.ending-requires
ending-requires g c =
    let can = c.requires.may c.in_ok-take_up.ensures.ready in
    (terms_of (entries_of can.told), (closed _ _ c.close.new.self _ can.told can.kept can.may c.take_up.ensures.set c.in_ok-close.ensures.closed).grams)

pub returns-in_err-close-clause-front : goal.returns-in_err-close-clause-front
returns-in_err-close-clause-front g c before told is may grams of = on_err_always _ (front_of_layout before _ told grams (front_of_spelled before _ _ _ is.written))

pub returns-in_err-ending-clause-front : goal.returns-in_err-ending-clause-front
returns-in_err-ending-clause-front g c before told is may grams of = on_err_always _ (front_of_layout before _ told grams (front_of_spelled before _ _ _ is.written))

pub returns-in_err-send-clause-front : goal.returns-in_err-send-clause-front
returns-in_err-send-clause-front g c before told is may grams of =
    on_err_always _ (front_of_layout before _ told grams (c.in_err-send.ensures.front before (settled_front told)
    (spells_on before _ c.args.sections.now c.take_up.new.self c.close.new.self _ (settled_front told) is.written c.take_up.ensures.set c.in_ok-close.ensures.closed)))

pub returns-in_err-put_tail-clause-front : goal.returns-in_err-put_tail-clause-front
returns-in_err-put_tail-clause-front g c before told is may grams of =
    let shut = closed c.args.sections.now c.take_up.new.self c.close.new.self _ told is.kept may c.take_up.ensures.set c.in_ok-close.ensures.closed in
    let behind = c.in_ok-ending.ensures (terms_of (entries_of told)) shut.grams in
    let spells = c.in_ok-send.ensures.sent before (settled_front told)
    (spells_on before _ c.args.sections.now c.take_up.new.self c.close.new.self _ (settled_front told) is.written c.take_up.ensures.set c.in_ok-close.ensures.closed) in
    on_err_always _ (front_of_tail before _ _ _ c.close.new.self told _ grams spells c.in_ok-send.ensures.empty shut behind of
    (rw (ending_kept c.close.new.self c.send.new.sections told _ shut behind c.send.ensures.kept) at (rw c.as_slice.ensures.value at c.in_err-put_tail.ensures.front)))

pub returns-in_err-flush-clause-front : goal.returns-in_err-flush-clause-front
returns-in_err-flush-clause-front g c before told is may grams of =
    let shut = closed c.args.sections.now c.take_up.new.self c.close.new.self _ told is.kept may c.take_up.ensures.set c.in_ok-close.ensures.closed in
    let behind = c.in_ok-ending.ensures (terms_of (entries_of told)) shut.grams in
    let spells = c.in_ok-send.ensures.sent before (settled_front told)
    (spells_on before _ c.args.sections.now c.take_up.new.self c.close.new.self _ (settled_front told) is.written c.take_up.ensures.set c.in_ok-close.ensures.closed) in
    on_err_always _ (front_of_finished before _ _ told grams
    (finished before _ _ _ c.close.new.self told _ spells c.in_ok-send.ensures.empty shut behind
    (rw (ending_kept c.close.new.self c.send.new.sections told _ shut behind c.send.ensures.kept) at (rw c.as_slice.ensures.value at c.in_ok-put_tail.ensures.whole)))
    of c.flush.ensures)

pub returns-clause-told : goal.returns-clause-told
returns-clause-told g c before told is may =
    let shut = closed c.args.sections.now c.take_up.new.self c.close.new.self _ told is.kept may c.take_up.ensures.set c.in_ok-close.ensures.closed in
    let behind = c.in_ok-ending.ensures (terms_of (entries_of told)) shut.grams in
    let spells = c.in_ok-send.ensures.sent before (settled_front told)
    (spells_on before _ c.args.sections.now c.take_up.new.self c.close.new.self _ (settled_front told) is.written c.take_up.ensures.set c.in_ok-close.ensures.closed) in
    finished_keeps before _ _ told
    (finished before _ _ _ c.close.new.self told _ spells c.in_ok-send.ensures.empty shut behind
    (rw (ending_kept c.close.new.self c.send.new.sections told _ shut behind c.send.ensures.kept) at (rw c.as_slice.ensures.value at c.in_ok-put_tail.ensures.whole)))
    c.flush.ensures
