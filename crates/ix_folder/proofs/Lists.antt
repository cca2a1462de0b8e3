-- Names that are looked for, and gathered.
use Rattle.std.proofs.Common.{◌≡◌, ◌≢◌, ◌⊎◌, ◌+◌, ◌<◌, ◌≤◌, inl, inr, ⊎_elim, ℕ, List, [], ◌∷◌, ◌++◌, Option, None, Some, get_or, length, map, option_map, slice_get, refl, sym, ap, subst, ◌∙◌, arith}
use Rattle.std.specs.Prelude.{Contains}
use Rattle.std.proofs.lemmas.Bool.{cases_lt}
use Rattle.std.proofs.lemmas.List.Elements.{Contains-append_left, Contains-push, Contains-push_cases}
use Rattle.std.proofs.lemmas.Option.{get_or_from_slice_get, same_Some, slice_get-get_or, slice_get-map, slice_get_within}
use Rattle.ix_files.specs.Slots.{IsAmong, Place}
use Rattle.ix_folder.specs.FolderNames.{IsLeftName, IsStray}

-- an element, by its place
pub at_of : {X : Type 0} (xs : List X) (x : X) → Contains xs x → (index : ℕ) × (slice_get xs index ≡ Some x)
at_of {X} xs x among = (among.0, slice_get-get_or xs among.0 x among.1 ∙ ap (λ (y : X). Some y) among.2)

pub contains_at : {X : Type 0} (xs : List X) (x : X) (index : ℕ) → slice_get xs index ≡ Some x → Contains xs x
contains_at xs x index is = (index, slice_get_within xs index x is, get_or_from_slice_get xs index x x is)

made : {X Y : Type 0} (f : X → Y) (y : Y) (found : Option X) → option_map f found ≡ Some y → (x : X) × (found ≡ Some x) × (f x ≡ y)
made f y None none = cc
made f y (Some x) same = (x, refl, same_Some (f x) y same)

-- an element that was made of another
pub made_of : {X Y : Type 0} (f : X → Y) (xs : List X) (y : Y) (index : ℕ) → slice_get (map f xs) index ≡ Some y → (x : X) × (slice_get xs index ≡ Some x) × (f x ≡ y)
made_of f xs y index is = made f y (slice_get xs index) (sym (slice_get-map f xs index) ∙ is)

-- ---- a name that is looked for

-- it is none of the first of these
abbrev pub IsNoneBelow : {X : Type 0} → (X → List ℕ) → List X → List ℕ → ℕ → Type 0
IsNoneBelow {X} f xs name count = (index : ℕ) (x : X) → index < count → slice_get xs index ≡ Some x → f x ≢ name

lower_or_last : (k index : ℕ) → k < index + 1 → (k < index) ⊎ (k ≡ index)
lower_or_last k index low = ⊎_elim inl (λ high. inr (omega (arith, low, high))) (cases_lt k index)

module _ {X : Type 0} (f : X → List ℕ) (xs : List X) (name : List ℕ) where
  pub none_below_first : IsNoneBelow f xs name 0
  none_below_first index x low is same = absurd (omega (arith, low))

  pub none_below_next : (index : ℕ) (x : X) → index < length xs → x ≡ get_or xs index x → f x ≢ name → IsNoneBelow f xs name index → IsNoneBelow f xs name (index + 1)
  none_below_next index x low is other before k y below found = ⊎_elim
      (λ earlier. before k y earlier found)
      (λ last same. other (ap f (same_Some x y (ap (λ (z : X). Some z) is ∙ sym (slice_get-get_or xs index x low) ∙ sym (ap (slice_get xs) last) ∙ found)) ∙ same))
      (lower_or_last k index below)

  pub is_none : (count : ℕ) → length xs ≤ count → IsNoneBelow f xs name count → ¬ (Contains (map f xs) name)
  is_none count all none among =
      let at = at_of (map f xs) name among in
      let of = made_of f xs name at.0 at.1 in
      none at.0 of.0 (omega (arith, all, slice_get_within xs at.0 of.0 of.1)) of.1 of.2

  pub is_there : (index : ℕ) (x : X) → index < length xs → x ≡ get_or xs index x → f x ≡ name → Contains (map f xs) name
  is_there index x low is same = contains_at (map f xs) name index
      (slice_get-map f xs index ∙ ap (option_map f) (slice_get-get_or xs index x low ∙ ap (λ (z : X). Some z) (sym is)) ∙ ap (λ (n : List ℕ). Some n) same)

-- ---- places that are gathered

-- These are the places of what was left, among the first of these names.
pub record AreStrays {X : Type 0} (f : X → List ℕ) (folder : List ℕ) (kept : List (List ℕ)) (names : List X) (count : ℕ) (places : List Place) : Type 0 where
  pub only : (place : Place) → IsAmong places place → IsStray folder kept place
  pub all : (index : ℕ) (x : X) (place : Place) → index < count → slice_get names index ≡ Some x → f x ≡ place.name → IsStray folder kept place → IsAmong places place

among_of : (places : List Place) (place : Place) → Contains places place → IsAmong places place
among_of places place contains = at_of places place contains

contains_of : (places : List Place) (place : Place) → IsAmong places place → Contains places place
contains_of places place among = contains_at places place among.0 among.1

module _ {X : Type 0} (f : X → List ℕ) (folder : List ℕ) (kept : List (List ℕ)) (names : List X) where
  none_among : (place : Place) → IsAmong [] place → ⊥
  none_among place among = let low : among.0 < 0 = slice_get_within [] among.0 place among.1 in absurd (omega (arith, low))

  pub no_strays : (places : List Place) → places ≡ [] → AreStrays f folder kept names 0 places
  no_strays places none = record {
    only = λ place among. absurd (none_among place (subst (λ (ps : List Place). IsAmong ps place) none among));
    all = λ index x place low is same stray. absurd (omega (arith, low));
  }

  pub all_strays : (count : ℕ) (places : List Place) → length names ≤ count → AreStrays f folder kept names count places → (place : Place) → Contains (map f names) place.name
      → IsStray folder kept place → IsAmong places place
  all_strays count places all are place among stray =
      let at = at_of (map f names) place.name among in
      let of = made_of f names place.name at.0 at.1 in
      are.all at.0 of.0 place (omega (arith, all, slice_get_within names at.0 of.0 of.1)) of.1 of.2 stray

  module _ (index : ℕ) (x : X) (low : index < length names) (is : x ≡ get_or names index x) (places : List Place) (are : AreStrays f folder kept names index places) where
    same_name : (k : ℕ) (y : X) → k ≡ index → slice_get names k ≡ Some y → x ≡ y
    same_name k y last found = same_Some x y (ap (λ (z : X). Some z) is ∙ sym (slice_get-get_or names index x low) ∙ sym (ap (slice_get names) last) ∙ found)

    -- a name that is none
    pub no_more_strays : (IsLeftName (f x) × ¬ (Contains kept (f x)) → ⊥) → AreStrays f folder kept names (index + 1) places
    no_more_strays none = record {
      only = are.only;
      all = λ k y place below found same stray. ⊎_elim
          (λ earlier. are.all k y place earlier found same stray)
          (λ last.
          let named : place.name ≡ f x = sym same ∙ sym (ap f (same_name k y last found)) in
          absurd (none (subst IsLeftName named stray.name, subst (λ (n : List ℕ). ¬ (Contains kept n)) named stray.unnamed)))
          (lower_or_last k index below);
    }

    -- one more
    pub one_more_stray : (more : List Place) → more ≡ places ++ record { folder = folder; name = f x } ∷ [] → IsLeftName (f x) × ¬ (Contains kept (f x)) → AreStrays f folder kept names (index + 1) more
    one_more_stray more pushed is_left =
        let new : Place = record { folder = folder; name = f x } in
        record {
          only = λ place among. ⊎_elim
              (λ before. are.only place (among_of places place before))
              (λ same. record {
                inside = sym (ap (λ (p : Place). p.folder) same);
                name = subst IsLeftName (ap (λ (p : Place). p.name) same) is_left.0;
                unnamed = subst (λ (n : List ℕ). ¬ (Contains kept n)) (ap (λ (p : Place). p.name) same) is_left.1;
              })
              (Contains-push_cases places new place (subst (λ (ps : List Place). Contains ps place) pushed (contains_of more place among)));
          all = λ k y place below found same stray. among_of more place (subst (λ (ps : List Place). Contains ps place) (sym pushed) (⊎_elim
              (λ earlier. Contains-append_left places (new ∷ []) place (contains_of places place (are.all k y place earlier found same stray)))
              (λ last.
              let named : f x ≡ place.name = ap f (same_name k y last found) ∙ same in
              let there : new ≡ place = ap (λ (fo : List ℕ). record { folder = fo; name = f x }) (sym stray.inside) ∙ ap (λ (n : List ℕ). record { folder = place.folder; name = n }) named in
              subst (λ (p : Place). Contains (places ++ new ∷ []) p) there (Contains-push places new))
              (lower_or_last k index below)));
        }
