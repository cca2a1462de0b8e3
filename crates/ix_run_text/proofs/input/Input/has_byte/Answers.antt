-- What is read on is held, and a read of no bytes is the end.
use Rattle.std.proofs.Common.{◌≡◌, ◌<◌, length, arith}
use Rattle.std.proofs.lemmas.List.{with_items_is}
use Rattle.std.specs.Vec.{with_items}
use Rattle.ix_run_text.specs.Inputs.{known_left}
use Rattle.ix_run_text.proofs.InputLemmas.{held-filled, found_or_ended}
use Rattle.ix_run_text.proofs.input.Input.has_byte.Goals as goal

pub returns-clause-kept : goal.returns-clause-kept
unfolding known_left
returns-clause-kept g c =
    let old = c.args.self.now in
    let len : length c.read_some.new.buffer ≡ old.buffer.len = omega (arith, old.buffer.ok.0) in
    held-filled (g.R.Read.remaining old.reader) (g.R.Read.remaining c.read_some.new.reader) old.buffer.items c.read_some.new.buffer (with_items old.buffer c.read_some.new.buffer).items
    old.start old.end c.in_ok-count.count c.if-self.false (with_items_is old.buffer c.read_some.new.buffer len) c.in_ok-count.ensures.taken

pub returns-clause-has : goal.returns-clause-has
unfolding known_left
returns-clause-has g c =
    let old = c.args.self.now in
    let room : 0 < length c.deref_mut.result.now = omega (arith, old.buffer.ok.0, old.room) in
    found_or_ended c.in_ok-count.count (with_items old.buffer c.read_some.new.buffer).items (g.R.Read.remaining c.read_some.new.reader) (λ none. c.in_ok-count.ensures.end none room)
