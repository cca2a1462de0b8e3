-- What follows for each maker if over all makers each place is asked for once.
use Rattle.std.specs.Prelude.{◌≡◌, ◌≢◌, ℕ, ◌<◌, ◌≤◌, List, Some, slice_get}
use Rattle.ix_pool.specs.declared.maker.Asked.{Asked}
use Rattle.ix_pool.specs.Askings.{times_asked}
use Rattle.ix_pool.specs.Shares.{EachOnce}

-- The place was asked for once, of one maker, and never of another.
pub record IsAskedOfOne (shares : List (List Asked)) (place : ℕ) : Type 0 where
  pub w : ℕ
  pub share : List Asked
  pub numbered : slice_get shares w ≡ Some share
  pub once : times_asked place share ≡ 1
  pub no_other : (v : ℕ) (other : List Asked) → v ≢ w → slice_get shares v ≡ Some other → times_asked place other ≡ 0

-- If each place is asked for once, one maker alone was asked for each place below the count.
abbrev pub EachOfOneMaker : Type 0
EachOfOneMaker = (count : ℕ) (shares : List (List Asked)) (place : ℕ) → EachOnce count shares → place < count → IsAskedOfOne shares place

-- Then no maker was asked for a place from the count on.
abbrev pub NoneFromTheCountOn : Type 0
NoneFromTheCountOn = (count : ℕ) (shares : List (List Asked)) (place w : ℕ) (share : List Asked) → EachOnce count shares → count ≤ place
    → slice_get shares w ≡ Some share → times_asked place share ≡ 0
