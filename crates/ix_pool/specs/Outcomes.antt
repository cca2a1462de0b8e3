-- The result of work on all places, over makers of any kind.
use Rattle.std.specs.Prelude.{◌≡◌, ℕ, ◌<◌, ◌↔◌, List, ◌++◌, length, Some, None, slice_get, Contains}
use Rattle.ix_pool.specs.declared.maker.MakeError.{MakeError}
use Rattle.ix_pool.specs.declared.pool.WorkError.{WorkError}
use Rattle.ix_pool.specs.declared.pool.WorkError.TheVariants.{Thread, Make, Memory}
use Rattle.ix_pool.specs.declared.maker.Asked.{Asked}
use Rattle.ix_pool.specs.Askings.{asking, NoneRefused, IsLowestRefused}
use Rattle.ix_pool.specs.Shares.{gained, new_askings, all_of, EachOnce, NoneTwice, BeginWithOwn}

module _ {M P : Type 0} (askings : M → List Asked) (gives : M → ℕ → P → Type 0) (follows : M → M → Type 0) where
  -- The same maker, later: its list of askings has grown at its end, and it may give the same pieces.
  pub record IsLater (old new : M) : Type 0 where
    pub grown : askings new ≡ askings old ++ gained (askings old) (askings new)
    pub keeps : (place : ℕ) (piece : P) → gives new place piece ↔ gives old place piece
    pub goes_on : follows old new

  -- All makers came back, each at its place.
  pub record CameBack (before after : List M) : Type 0 where
    pub as_many : length after ≡ length before
    pub each : (w : ℕ) (old new : M) → slice_get before w ≡ Some old → slice_get after w ≡ Some new → IsLater old new

  -- A piece that a maker may give for the place, and that maker was asked for it without an error.
  pub record IsMadeFor (before after : List M) (place : ℕ) (piece : P) : Type 0 where
    pub w : ℕ
    pub maker : M
    pub share : List Asked
    pub numbered : slice_get before w ≡ Some maker
    pub shared : slice_get (new_askings askings before after) w ≡ Some share
    pub asked : Contains share (asking place None)
    pub given : gives maker place piece

  -- Each place was asked for once and made, and the pieces are in the order of the places.
  pub record IsMade (before : List M) (count : ℕ) (after : List M) (pieces : List P) : Type 0 where
    pub back : CameBack before after
    pub once : EachOnce count (new_askings askings before after)
    pub begin : BeginWithOwn count (new_askings askings before after)
    pub none_refused : NoneRefused (all_of (new_askings askings before after))
    pub as_many : length pieces ≡ count
    pub made : (place : ℕ) (piece : P) → slice_get pieces place ≡ Some piece → IsMadeFor before after place piece

  -- Each place was asked for once, and this is the lowest that failed.
  pub record IsRefusedAt (before : List M) (count : ℕ) (after : List M) (place : ℕ) (error : MakeError) : Type 0 where
    pub back : CameBack before after
    pub once : EachOnce count (new_askings askings before after)
    pub begin : BeginWithOwn count (new_askings askings before after)
    pub lowest : IsLowestRefused (all_of (new_askings askings before after)) place error

  -- The work stopped before all places were asked for. No place was asked for twice.
  pub record IsStopped (before after : List M) : Type 0 where
    pub back : CameBack before after
    pub none_twice : NoneTwice (new_askings askings before after)

  -- What an error says. After `Thread` nothing is said of the makers.
  abbrev pub Fails : List M → ℕ → List M → WorkError → Type 0
  Fails before count after (Thread w) = w < length before
  Fails before count after (Make place error) = IsRefusedAt before count after place error
  Fails before count after Memory = IsStopped before after
