use Rattle.std.proofs.Common.{◌<◌, sym, subst}
use Rattle.std.specs.Prelude.{IfSome}
use Rattle.ix_board.specs.Desks.{BoardView, LooksThenClaims}
use Rattle.ix_pool.proofs.TakingLemmas.{claim_takes, claim_finds_none}
use Rattle.ix_pool.proofs.worker.next_place.Goals as goal

pub returns-in-None-clause-some : goal.returns-in-None-clause-some
returns-in-None-clause-some g c =
    let old = c.args.desk.now in
    let new = c.claim.new.self in
    let B : BoardView → Type 0 = λ b. IfSome c.claim.result (λ k. (k < b.count) × LooksThenClaims old new k) in
    claim_takes old new c.claim.result (sym c.in-None.ensures.held) (subst B (sym c.requires) c.claim.ensures.some) c.claim.ensures.held

pub returns-in-None-clause-none : goal.returns-in-None-clause-none
returns-in-None-clause-none g c = claim_finds_none c.args.desk.now c.claim.new.self c.claim.result (sym c.in-None.ensures.held) c.claim.ensures.none c.claim.ensures.held
