-- How places are shared among makers: what each maker was newly asked for, maker by maker.
use Rattle.std.specs.Prelude.{◌≡◌, ℕ, ◌<◌, ◌≤◌, nat_lt, List, [], ◌∷◌, length, drop, flat_map, Some, None, slice_get, if◌then◌else◌}
use Rattle.ix_pool.specs.declared.maker.Asked.{Asked}
use Rattle.ix_pool.specs.Askings.{times_asked, first_place}

-- the askings that a list has gained at its end
abbrev pub gained : List Asked → List Asked → List Asked
gained old new = drop (length old) new

-- what each maker was asked for from before to after
abbrev pub new_askings : {M : Type 0} → (M → List Asked) → List M → List M → List (List Asked)
new_askings askings [] after = []
new_askings askings (old ∷ before) [] = []
new_askings askings (old ∷ before) (new ∷ after) = gained (askings old) (askings new) ∷ new_askings askings before after

-- the askings of all makers
abbrev pub all_of : List (List Asked) → List Asked
all_of shares = flat_map (λ share. share) shares

-- Over all makers each place below the count is asked for exactly once, and no other is.
abbrev pub EachOnce : ℕ → List (List Asked) → Type 0
EachOnce count shares = (place : ℕ) → times_asked place (all_of shares) ≡ (if nat_lt place count then 1 else 0)

-- Over all makers no place is asked for twice.
abbrev pub NoneTwice : List (List Asked) → Type 0
NoneTwice shares = (place : ℕ) → times_asked place (all_of shares) ≤ 1

-- Maker w begins with place w, if there is such a place.
abbrev pub BeginWithOwn : ℕ → List (List Asked) → Type 0
BeginWithOwn count shares = (w : ℕ) (share : List Asked) → w < count → slice_get shares w ≡ Some share
    → first_place share None ≡ Some w
