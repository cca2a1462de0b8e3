-- Readings one after another, taken apart.
use Rattle.std.proofs.Common.{◌≡◌, Result, Ok, Err, Bool, true, false, cond, refl}
use Rattle.ix_query_text.specs.declared.error.QueryError.{QueryError}
use Rattle.ix_query_text.specs.QueryErrors.{◌>>=◌}

-- two readings succeed where the first does, and the second behind it
pub bind_ok : {A B : Type 0} (r : Result A QueryError) (f : A → Result B QueryError) (y : B) → (r >>= f) ≡ Ok y → (x : A) × (r ≡ Ok x) × (f x ≡ Ok y)
bind_ok (Ok x) f y e = (x, refl, e)
bind_ok (Err d) f y e = absurd (cc)

pub bind_assoc : {A B C : Type 0} (r : Result A QueryError) (f : A → Result B QueryError) (g : B → Result C QueryError) → ((r >>= f) >>= g) ≡ (r >>= λ x. f x >>= g)
bind_assoc (Ok x) f g = refl
bind_assoc (Err d) f g = refl

-- a test that has to hold for success
pub guard_ok : {A B : Type 0} (b : Bool) (x : A) (d : QueryError) (f : A → Result B QueryError) (y : B) → (cond b (Ok x) (Err d) >>= f) ≡ Ok y → (b ≡ true) × (f x ≡ Ok y)
guard_ok true x d f y e = (refl, e)
guard_ok false x d f y e = absurd (cc)
