use Rattle.std.proofs.Common.{◌≡◌, ℕ, ◌+◌, ◌-◌, ◌++◌, ◌∷◌, [], sym, subst, arith, inl, inr}
use Rattle.std.proofs.lemmas.Result.{err_from_is_err_and}
use Rattle.ix_postings.proofs.positions.check_position.Goals as goal

pub see-requires : goal.see-requires
see-requires g c = (c.requires.room.0, c.requires.room.1, let within = c.requires.room.2 in let some = c.in_ok-gap.ensures.found.some in omega (arith, within, some, c.if-gap-count.false, c.requires.below))

pub returns-in_err-gap-clause-accepted : goal.returns-in_err-gap-clause-accepted
returns-in_err-gap-clause-accepted g c numbers position missing rest held above below free e =
    let p = err_from_is_err_and c.from_residual.result c.from_residual.ensures.1 in
    rw (p.1, p.2) (inr (c.in_err-gap.ensures.accepted (position + 1 - c.args.next) missing rest (omega (arith, above)) (omega (arith, below, c.requires.fits)) e))

pub returns-in_err-see-clause-accepted : goal.returns-in_err-see-clause-accepted
returns-in_err-see-clause-accepted g c numbers position missing rest held above below free e =
    let is = c.in_ok-gap.ensures.accepted (position + 1 - c.args.next) missing rest (omega (arith, above)) (omega (arith, below, c.requires.fits)) e in
    let same : c.args.span.0 + (c.args.next + (c.in_ok-gap.gap - 1)) ≡ c.args.span.0 + position = omega (arith, is.0, above) in
    let p = err_from_is_err_and c.from_residual-in_err-see.result c.from_residual-in_err-see.ensures.1 in
    rw (p.1, p.2) (inl (c.in_err-see.ensures.accepted numbers held (subst (λ (n : ℕ). g.S.SeenTokens.admits (numbers ++ n ∷ [])) (sym same) free)))
