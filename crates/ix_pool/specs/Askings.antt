-- The askings of a maker, as a list.
use Rattle.std.specs.Prelude.{◌≡◌, ℕ, ◌≤◌, ◌==◌, Bool, List, [], ◌∷◌, Option, Some, None, Contains}
use Rattle.std.specs.List.{count_by}
use Rattle.ix_pool.specs.declared.maker.MakeError.{MakeError}
use Rattle.ix_pool.specs.declared.maker.Asked.{Asked}

-- the asking for a place, with an error or without one
abbrev pub asking : ℕ → Option MakeError → Asked
asking place error = record { place = place; error = error }

-- it asks for this place
abbrev pub asks : ℕ → Asked → Bool
asks place asked = asked.place == place

-- how often a place is asked for
abbrev pub times_asked : ℕ → List Asked → ℕ
times_asked place askings = count_by (asks place) askings

-- the place that is asked for first, or the other one if none is
abbrev pub first_place : List Asked → Option ℕ → Option ℕ
first_place [] other = other
first_place (asked ∷ askings) other = Some asked.place

-- no asking has an error
abbrev pub NoneRefused : List Asked → Type 0
NoneRefused askings = (asked : Asked) → Contains askings asked → asked.error ≡ None

-- This place was asked for and failed with this error, and no lower one failed.
pub record IsLowestRefused (askings : List Asked) (place : ℕ) (error : MakeError) : Type 0 where
  pub refused : Contains askings (asking place (Some error))
  pub lowest : (asked : Asked) (other : MakeError) → Contains askings asked → asked.error ≡ Some other → place ≤ asked.place
