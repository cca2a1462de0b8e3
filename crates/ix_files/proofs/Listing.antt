-- The names of the files of a folder, gathered change by change.
use Rattle.std.proofs.Common.{◌≡◌, ◌≢◌, ◌⊎◌, ◌+◌, ◌<◌, ◌≤◌, inl, inr, ⊎_elim, ℕ, suc, MatchOption, Option, None, Some, List, [], ◌∷◌, ◌++◌, get_or, length, drop, map, sym, subst, ap, ◌∙◌, add-one}
use Rattle.std.proofs.Math.Seq.{drop-cons}
use Rattle.std.proofs.lemmas.List.{drop_all, map-append}
use Rattle.std.proofs.lemmas.List.Elements.{Contains-append_left, Contains-push}
use Rattle.std.specs.Prelude.{Contains}
use Rattle.ix_files.specs.MemoryChanges.{after_change, after_changes}
use Rattle.ix_files.specs.Opened.{AreNamesIn}
use Rattle.ix_files.specs.Slots.{Nothing, Place, Slots}
use Rattle.ix_files.specs.declared.memory_changes.Change.{Change}

-- The name of each file in the folder is among these, or the file was there before the earlier changes.
abbrev pub AreGathered : List ℕ → List (List ℕ) → List Change → List Change → Type 0
AreGathered folder names changes earlier = (place : Place) → place.folder ≡ folder → (after_changes changes place).now ≢ Nothing
    → Contains names place.name ⊎ ((after_changes earlier place).now ≢ Nothing)

pub none_gathered : (folder : List ℕ) (changes : List Change) → AreGathered folder [] changes (drop 0 changes)
none_gathered folder changes place inside there = inr there

pub all_gathered : (folder : List ℕ) (names : List (List ℕ)) (changes : List Change) (count : ℕ) → length changes ≤ count
    → AreGathered folder names changes (drop count changes) → AreNamesIn folder names (after_changes changes)
all_gathered folder names changes count all gathered place inside there = ⊎_elim (λ among. among)
    (λ left. absurd (left (ap (λ (earlier : List Change). (after_changes earlier place).now) (drop_all count changes all))))
    (gathered place inside there)

-- one change more
pub one_more_gathered : (folder : List ℕ) (names more : List (List ℕ)) (changes : List Change) (index : ℕ) (change : Change) (Filled : Place → Type 0)
    → index < length changes → change ≡ get_or changes index change
    → ((slots : Slots) (place : Place) → (after_change change slots place).now ≢ Nothing → ((slots place).now ≢ Nothing) ⊎ Filled place)
    → ((name : List ℕ) → Contains names name → Contains more name)
    → ((place : Place) → Filled place → place.folder ≡ folder → (after_changes changes place).now ≢ Nothing → Contains more place.name)
    → AreGathered folder names changes (drop index changes) → AreGathered folder more changes (drop (index + 1) changes)
one_more_gathered folder names more changes index change Filled low is filled keeps adds gathered place inside there =
    let split : drop index changes ≡ change ∷ drop (suc index) changes = drop-cons changes index change low ∙ ap (λ (c : Change). c ∷ drop (suc index) changes) (sym is) in
    let next : index + 1 ≡ suc index = add-one index in
    ⊎_elim (λ among. inl (keeps place.name among))
    (λ left. ⊎_elim
    (λ earlier. inr (subst (λ (n : ℕ). (after_changes (drop n changes) place).now ≢ Nothing) (sym next) earlier))
    (λ now. inl (adds place now inside there))
    (filled (after_changes (drop (suc index) changes)) place (subst (λ (cs : List Change). (after_changes cs place).now ≢ Nothing) split left)))
    (gathered place inside there)

-- a name more
module _ {T : Type 0} (bytes : T → List ℕ) (names more : List T) (last : T) (pushed : more ≡ names ++ last ∷ []) where
  mapped : map bytes more ≡ map bytes names ++ bytes last ∷ []
  mapped = ap (map bytes) pushed ∙ map-append bytes names (last ∷ [])

  pub kept_names : (name : List ℕ) → Contains (map bytes names) name → Contains (map bytes more) name
  kept_names name among = subst (λ (ns : List (List ℕ)). Contains ns name) (sym mapped) (Contains-append_left (map bytes names) (bytes last ∷ []) name among)

  pub added_name : (name : List ℕ) → bytes last ≡ name → Contains (map bytes more) name
  added_name name same = subst (λ (ns : List (List ℕ)). Contains ns name) (sym mapped) (subst (λ (n : List ℕ). Contains (map bytes names ++ bytes last ∷ []) n) same (Contains-push (map bytes names) (bytes last)))

-- the name that a change filled
module _ {T : Type 0} (place_at : T → Place) (place : Place) (found : Option T) where
  pub is_filled : (at : T) → found ≡ Some at → MatchOption found ⊥ (λ at. place_at at ≡ place) → place_at at ≡ place
  is_filled at is filled_at = subst (λ (found : Option T). MatchOption found ⊥ (λ at. place_at at ≡ place)) is filled_at

  pub none_filled : found ≡ None → MatchOption found ⊥ (λ at. place_at at ≡ place) → ⊥
  none_filled is filled_at = subst (λ (found : Option T). MatchOption found ⊥ (λ at. place_at at ≡ place)) is filled_at
