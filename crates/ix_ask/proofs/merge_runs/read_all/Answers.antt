-- One more text is read, or was not.
use Rattle.std.proofs.Common.{◌≡◌, ◌∙◌, true, not, ap}
use Rattle.std.specs.Prelude.{is_ok}
use Rattle.ix_ask.specs.Merging.{no_head, no_memory, texts_behind}
use Rattle.ix_ask.proofs.MergingLemmas.{reading_every, reading_more, text_at}
use Rattle.ix_ask.proofs.merge_runs.read_all.Goals as goal

pub returns-in-Err-clause-refused : goal.returns-in-Err-clause-refused
returns-in-Err-clause-refused c =
    no_head c.loop-place.place _ c.in-Err.error (text_at c.args.runs.now c.loop-place.place _ c.loop-place-test.true) c.in-Err.ensures.refused

pub returns-then-is_err-clause-refused : goal.returns-then-is_err-clause-refused
returns-then-is_err-clause-refused c = no_memory

pub loop-place-preserved : goal.loop-place-preserved
loop-place-preserved c =
    let ok : is_ok c.push.result ≡ true = c.is_err.ensures.negation ∙ ap not c.if-is_err.false in
    let items = rw ok at c.push.ensures.items in
    let more = reading_more (texts_behind c.args.runs.now) c.loop-place.readers.items c.loop-place.place c.in-Ok.reader _ (text_at c.args.runs.now c.loop-place.place _ c.loop-place-test.true)
    c.in-Ok.ensures.reading c.loop-place.invariant in
    rw items more

pub returns-clause-reading : goal.returns-clause-reading
returns-clause-reading c = reading_every c.args.runs.now c.loop-place.readers.items c.loop-place.place c.loop-place-test.false c.loop-place.auto.place-end c.loop-place.invariant
