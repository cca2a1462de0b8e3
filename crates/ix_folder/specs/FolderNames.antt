-- The names in a folder of one manifest and the files that it names.
use Rattle.std.specs.Prelude.{◌≡◌, ◌⊎◌, ◌++◌, ◌<◌, ◌^◌, ℕ, List, Contains, codes, decimal}
use Rattle.ix_files.specs.Slots.{Place}

-- the manifest
abbrev pub manifest_place : List ℕ → Place
manifest_place folder = record { folder = folder; name = codes "manifest" }

-- the manifest that will take its place
abbrev pub draft_place : List ℕ → Place
draft_place folder = record { folder = folder; name = codes "manifest.new" }

-- what the one program has locked that writes
abbrev pub lock_place : List ℕ → Place
lock_place folder = record { folder = folder; name = codes "lock" }

-- It is a number of 64 bits, in decimal.
pub record IsNumber (text : List ℕ) : Type 0 where
  pub number : ℕ
  pub bound : number < 2 ^ 64
  pub spelled : text ≡ decimal number

-- It is a word and a number behind it.
pub record IsNumbered (word name : List ℕ) : Type 0 where
  pub text : List ℕ
  pub number : IsNumber text
  pub joined : name ≡ word ++ text

-- It is the name of a file of a manifest, by its number.
abbrev pub IsFileName : List ℕ → Type 0
IsFileName name = IsNumbered (codes "segment-") name ⊎ IsNumbered (codes "removals-") name

-- A program that was killed may have left a file of this name, which no manifest names.
abbrev pub IsLeftName : List ℕ → Type 0
IsLeftName name = (name ≡ codes "manifest.new") ⊎ IsFileName name

-- A folder that has no manifest yet may have a file of this name.
abbrev pub IsOwnName : List ℕ → Type 0
IsOwnName name = (name ≡ codes "lock") ⊎ IsLeftName name

-- It is the place of a file that is in no manifest, if these are the names of all that are in one.
pub record IsStray (folder : List ℕ) (kept : List (List ℕ)) (place : Place) : Type 0 where
  pub inside : place.folder ≡ folder
  pub name : IsLeftName place.name
  pub unnamed : ¬ (Contains kept place.name)
