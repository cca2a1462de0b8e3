-- Readings in a row, and where a fault of one goes.
use Rattle.std.proofs.Common.{◌≡◌, Result, ap}
use Rattle.ix_query_text.specs.declared.error.QueryError.{QueryError}
use Rattle.ix_query_text.specs.declared.error.QueryError.TheVariants.{Memory}
use Rattle.ix_query_text.specs.QueryErrors.{◌>>=◌, Fails}

-- a fault is the fault of what was to follow
pub fails_bind : {A B : Type 0} (e : QueryError) (r : Result A QueryError) (f : A → Result B QueryError) → Fails e r → Fails e (r >>= f)
fails_bind Memory r f h = tt
fails_bind e r f h = ap (λ x. x >>= f) h

pub fails_at : {A : Type 0} (e : QueryError) (r s : Result A QueryError) → r ≡ s → Fails e r → Fails e s
fails_at e r s same h = rw (← same) h
