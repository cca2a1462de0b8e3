-- One position more, or why there is none.
use Rattle.std.proofs.Common.{ℕ, ◌+◌, List, sym, subst, arith}
use Rattle.std.proofs.lemmas.List.{take_rest}
use Rattle.std.proofs.lemmas.Result.{err_from_is_err_and}
use Rattle.ix_postings.proofs.PositionLemmas.{SeenSoFar, sees_positions, so_far_fails, so_far_more, so_far_none, so_far_short}
use Rattle.ix_postings.proofs.positions.check_positions.Goals as goal

pub loop-init : goal.loop-init
loop-init g c = record {
  room = λ top. (λ has. has, λ has. has);
  so_far = so_far_none g.S.SeenTokens.admits (g.S.SeenTokens.has_seen c.args.seen.now) c.args.span.0 c.args.span.1 c.args.count c.args.bytes.now;
}

pub check_position-requires-clause-below : goal.check_position-requires-clause-below
check_position-requires-clause-below g c = c.loop.invariant.so_far.taken.low

pub check_position-requires-clause-room : goal.check_position-requires-clause-room
check_position-requires-clause-room g c = (c.requires.room.0, (c.loop.invariant.room _).0 c.requires.room.1, c.requires.room.2)

pub returns-in_err-position-clause-room : goal.returns-in_err-position-clause-room
returns-in_err-position-clause-room g c top =
    let now = c.check_position.ensures.room top in
    let before = c.loop.invariant.room top in
    (λ has. now.0 (before.0 has), λ has. before.1 (now.1 has))

pub returns-in_err-position-clause-accepted : goal.returns-in_err-position-clause-accepted
returns-in_err-position-clause-accepted g c =
    let loop = c.loop in
    let p = err_from_is_err_and c.from_residual.result c.from_residual.ensures.1 in
    rw (p.1, p.2)
    (so_far_fails g.S.SeenTokens.admits g.met.S.SeenTokens.front_admitted (g.S.SeenTokens.has_seen c.args.seen.now) (g.S.SeenTokens.has_seen loop.seen) c.args.span.0 c.args.span.1 c.args.count loop.counter c.args.bytes.now loop.rest.now loop.next loop.invariant.so_far c.loop-test.true c.in_err-position.field-0.0 c.in_err-position.ensures.accepted)

pub loop-preserved : goal.loop-preserved
loop-preserved g c =
    let loop = c.loop in
    let is = c.in_ok-position.ensures in
    let admits = g.S.SeenTokens.admits in
    let old = g.S.SeenTokens.has_seen c.args.seen.now in
    let new = g.S.SeenTokens.has_seen c.check_position.new.seen in
    record {
      room = λ top. (λ has. (is.room top).0 ((loop.invariant.room top).0 has), λ has. (loop.invariant.room top).1 ((is.room top).1 has));
      so_far = subst (λ (rest : List ℕ). SeenSoFar admits old new c.args.span.0 c.args.span.1 c.args.count (loop.counter + 1) c.args.bytes.now rest (c.in_ok-position.position + 1)) (sym (take_rest loop.rest.now c.in_ok-position.size))
          (so_far_more admits g.met.S.SeenTokens.front_admitted old (g.S.SeenTokens.has_seen loop.seen) c.args.span.0 c.args.span.1 c.args.count loop.counter c.args.bytes.now loop.rest.now loop.next loop.invariant.so_far c.loop-test.true
          new c.in_ok-position.position c.in_ok-position.size is.begins is.seen is.accepted);
    }

pub overflow_sub-result : goal.overflow_sub-result
overflow_sub-result g c =
    let loop = c.loop in
    so_far_short g.S.SeenTokens.admits (g.S.SeenTokens.has_seen c.args.seen.now) (g.S.SeenTokens.has_seen loop.seen) c.args.span.0 c.args.span.1 c.args.count loop.counter c.args.bytes.now loop.rest.now loop.next loop.invariant.so_far (omega (arith, c.loop-test.false, c.loop.auto.counter-end))

pub returns-clause-read : goal.returns-clause-read
returns-clause-read g c =
    let loop = c.loop in
    sees_positions g.S.SeenTokens.admits (g.S.SeenTokens.has_seen c.args.seen.now) (g.S.SeenTokens.has_seen loop.seen) c.args.span.0 c.args.span.1 c.args.count loop.counter c.args.bytes.now loop.rest.now loop.next loop.invariant.so_far (omega (arith, c.loop-test.false, c.loop.auto.counter-end))

pub returns-clause-room : goal.returns-clause-room
returns-clause-room g c = c.loop.invariant.room
