-- Stores of runs: what their calls leave, and how places are shared among them.
use Rattle.std.specs.Prelude.{◌≡◌, ℕ, ◌+◌, ◌-◌, ◌^◌, ◌<◌, ◌≤◌, ◌==◌, ◌↔◌, Bool, nat_lt, List, [], ◌∷◌, ◌++◌, length, drop, flat_map, Some, slice_get, if◌then◌else◌, Result, MatchResult}
use Rattle.std.specs.List.{count_by}

-- one more, but where there is no greater number of 64 bits
abbrev pub IsOneMore : ℕ → ℕ → Type 0
IsOneMore old new = (old < 2 ^ 64 - 1 → new ≡ old + 1) × (2 ^ 64 - 1 ≤ old → new ≡ old)

-- A refusal is counted from the one number to the other, unless the first one is the greatest of 64 bits.
abbrev pub CountsMore : ℕ → ℕ → Type 0
CountsMore old new = old < 2 ^ 64 - 1 → old < new

-- A refused call is counted, and one that was done is not.
abbrev pub CountsRefusal : {T E : Type 0} → Result T E → ℕ → ℕ → Type 0
CountsRefusal result old new = MatchResult result (λ done. new ≡ old) (λ error. IsOneMore old new)

-- the places that a list has gained at its end
abbrev pub gained_places : List ℕ → List ℕ → List ℕ
gained_places old new = drop (length old) new

-- what each store has newly saved from before to after
abbrev pub new_places : {S : Type 0} → (S → List ℕ) → List S → List S → List (List ℕ)
new_places places [] after = []
new_places places (old ∷ before) [] = []
new_places places (old ∷ before) (new ∷ after) = gained_places (places old) (places new) ∷ new_places places before after

-- it is this place
abbrev pub is_place : ℕ → ℕ → Bool
is_place place other = other == place

-- how often a place was saved, over all stores
abbrev pub times_saved : ℕ → List (List ℕ) → ℕ
times_saved place shares = count_by (is_place place) (flat_map (λ share. share) shares)

-- Over all stores each place below the count was saved exactly once, and no other was.
abbrev pub SavedOnce : ℕ → List (List ℕ) → Type 0
SavedOnce count shares = (place : ℕ) → times_saved place shares ≡ (if nat_lt place count then 1 else 0)

-- Over all stores no place was saved twice.
abbrev pub NoneSavedTwice : List (List ℕ) → Type 0
NoneSavedTwice shares = (place : ℕ) → times_saved place shares ≤ 1

-- No store saved the place, and each lower one was saved once.
pub record IsLowestUnsaved (shares : List (List ℕ)) (place : ℕ) : Type 0 where
  pub unsaved : times_saved place shares ≡ 0
  pub lower : (other : ℕ) → other < place → times_saved other shares ≡ 1

-- Store w saved place w first, where there is such a place.
abbrev pub SaveOwnFirst : ℕ → List (List ℕ) → Type 0
SaveOwnFirst count shares = (w : ℕ) (share : List ℕ) → w < count → slice_get shares w ≡ Some share → slice_get share 0 ≡ Some w

-- One of the stores has counted a refusal from before to after.
pub record HasRefused {S : Type 0} (refusals : S → ℕ) (before after : List S) : Type 0 where
  pub w : ℕ
  pub old : S
  pub new : S
  pub was : slice_get before w ≡ Some old
  pub is : slice_get after w ≡ Some new
  pub counted : CountsMore (refusals old) (refusals new)

module _ {S : Type 0} (places : S → List ℕ) (refusals : S → ℕ) (back : S → ℕ → List ℕ → Type 0) where
  -- The same store, later: it has saved places behind those that it had, it has not fewer refusals, and gives back what
  -- it gave back.
  pub record IsLaterStore (old new : S) : Type 0 where
    pub grown : places new ≡ places old ++ gained_places (places old) (places new)
    pub counted : refusals old ≤ refusals new
    pub keeps : (place : ℕ) (bytes : List ℕ) → back new place bytes ↔ back old place bytes

  -- All stores came back, each at its place.
  pub record StoresCameBack (before after : List S) : Type 0 where
    pub as_many : length after ≡ length before
    pub each : (w : ℕ) (old new : S) → slice_get before w ≡ Some old → slice_get after w ≡ Some new → IsLaterStore old new

  -- Each place was saved once, by one store, and each store began with its own.
  pub record AreSaved (before : List S) (count : ℕ) (after : List S) : Type 0 where
    pub came_back : StoresCameBack before after
    pub once : SavedOnce count (new_places places before after)
    pub own_first : SaveOwnFirst count (new_places places before after)

  -- Not every place need be saved, but none was twice.
  pub record AreSavedInPart (before after : List S) : Type 0 where
    pub came_back : StoresCameBack before after
    pub none_twice : NoneSavedTwice (new_places places before after)
