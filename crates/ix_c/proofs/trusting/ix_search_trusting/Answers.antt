-- The error that a query met is told.
use Rattle.std.proofs.Common.{rules, ◌≡◌, subst}
use Rattle.ix_c.specs.Trusting.{RefusesTrusting}
use Rattle.ix_c.proofs.trusting.ix_search_trusting.Goals as goal

pub returns-in-Err-clause-refused : goal.returns-in-Err-clause-refused
returns-in-Err-clause-refused c = λ one.
    let same : c.in-Ok.query.now ≡ c.args.query.now = search rules in
    record {
      reason = c.in-Err.refusal;
      holds = subst (λ query. RefusesTrusting c.args.index.now query c.in-Err.refusal) same c.in-Err.ensures.refused;
      told = c.tell.ensures.told;
    }
