-- A posting that stands first and may come next is not refused, whichever way it is taken.
use Rattle.std.proofs.Common.{◌-◌, ◌+◌, take, sym, arith, inl}
use Rattle.std.proofs.lemmas.Result.{err_from_is_err_and}
use Rattle.ix_postings.proofs.CheckedPostings.{sees_front, sees_single, single_in_front, single_stands}
use Rattle.ix_postings.proofs.lists.check_posting.Goals as goal

pub returns-in_err-document-in-Some-clause-accepted : goal.returns-in_err-document-in-Some-clause-accepted
returns-in_err-document-in-Some-clause-accepted g c rows numbers posting missing rest has held fits free e =
    let found = c.in-Some.posting in
    let front = single_in_front c.args.bytes.now found.gap found.position_gap found.size c.args.limit c.in-Some.ensures.found (omega arith) in
    let is = single_stands (take c.args.limit c.args.bytes.now) missing found.gap found.position_gap found.size (posting.0 + 1 - c.args.next) posting rest front e in
    let p = err_from_is_err_and c.from_residual.result c.from_residual.ensures.1 in
    rw (p.1, p.2) (inl (c.in_err-document-in-Some.ensures.accepted rows numbers posting has held fits free (sym is.0) is.1))

pub returns-in_ok-document-in-Some-clause-read : goal.returns-in_ok-document-in-Some-clause-read
returns-in_ok-document-in-Some-clause-read g c =
    let found = c.in-Some.posting in
    let is = c.in_ok-document-in-Some.ensures in
    sees_single g.S.SeenTokens.admits (g.S.SeenTokens.has_seen c.args.seen.now) (g.S.SeenTokens.has_seen c.check_single.new.seen) c.args.tokens.now c.args.next c.args.bytes.now found.gap found.position_gap found.size c.in_ok-document-in-Some.document c.in-Some.ensures.found is.numbered is.fits is.seen

pub returns-in_default-clause-read : goal.returns-in_default-clause-read
returns-in_default-clause-read g c = sees_front g.S.SeenTokens.admits (g.S.SeenTokens.has_seen c.args.seen.now) (g.S.SeenTokens.has_seen c.check_any_posting.new.seen) c.args.tokens.now c.args.next c.args.bytes.now c.args.limit c.requires.within c.check_any_posting.result c.check_any_posting.ensures.size c.check_any_posting.ensures.read

pub returns-in_default-clause-accepted : goal.returns-in_default-clause-accepted
returns-in_default-clause-accepted g c rows numbers posting missing rest has held fits free e = c.check_any_posting.ensures.accepted rows numbers posting missing rest has held fits free e
