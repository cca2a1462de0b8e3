-- What the stores of makers saved, against what the makers were asked for.
use Rattle.std.proofs.Common.{◌≡◌, ℕ, zero, suc, ◌+◌, ◌<◌, ◌≤◌, cond, List, [], ◌∷◌, ◌++◌, length, map, Contains, refl, sym, ap, subst, ◌∙◌, arith}
use Rattle.std.specs.Prelude.{Option, Some, None, slice_get, flat_map}
use Rattle.std.specs.List.{count_by}
use Rattle.std.proofs.lemmas.List.{drop_at, length-map}
use Rattle.std.proofs.lemmas.List.Concat.{flat_map-cons}
use Rattle.std.proofs.lemmas.List.Elements.{All-contains, Contains-append_left, Contains-append_right}
use Rattle.std.proofs.lemmas.List.Sums.{sum_by-cons}
use Rattle.std.proofs.lemmas.Option.{none-some, same_Some}
use Rattle.ix_board.proofs.Closings.{got-map}
use Rattle.ix_board.proofs.Endings.{get-map}
use Rattle.ix_board.proofs.SliceGets.{contains_there}
use Rattle.ix_pool.specs.declared.maker.MakeError.{MakeError}
use Rattle.ix_pool.specs.declared.maker.MakeError.TheVariants as make
use Rattle.ix_pool.specs.declared.maker.Asked.{Asked}
use Rattle.ix_build.specs.declared.saving_maker.SavingMaker.{SavingMaker}
use Rattle.ix_pool.specs.Askings.{NoneRefused, asking, asks, first_place, times_asked}
use Rattle.ix_pool.specs.Outcomes.{CameBack, IsLater}
use Rattle.ix_build.proofs.BlockMaking.{asked_of_one}
use Rattle.ix_build.specs.SavingLaws.{made_places-append}
use Rattle.ix_build.specs.SavingMakers.{GivesHead, HasSaved, IsOfStore, StaysSavingMaker, asked_of_saving, made_places, store_of, with_place}
use Rattle.ix_pool.specs.Shares.{BeginWithOwn, EachOnce, NoneTwice, all_of, gained, new_askings}
use Rattle.ix_build.specs.Stores.{AreSaved, AreSavedInPart, HasRefused, IsLaterStore, NoneSavedTwice, SaveOwnFirst, SavedOnce, StoresCameBack, gained_places, is_place, new_places, times_saved}

-- ---- one list of askings

-- what was made was asked for
pub made_asked : (place : ℕ) (askings : List Asked) → count_by (is_place place) (made_places askings) ≤ times_asked place askings
made_asked place [] = omega arith
made_asked place (asked ∷ askings) = by asked.error (made_asked place askings)
  where
    by : (error : Option MakeError) → count_by (is_place place) (made_places askings) ≤ times_asked place askings
        → count_by (is_place place) (with_place error asked.place (made_places askings)) ≤ times_asked place (asked ∷ askings)
    by None rest =
        let here = sum_by-cons (λ (other : ℕ). cond (is_place place other) 1 0) asked.place (made_places askings) in
        let more = sum_by-cons (λ (a : Asked). cond (asks place a) 1 0) asked askings in
        omega (arith, rest, here, more)
    by (Some error) rest =
        let more = sum_by-cons (λ (a : Asked). cond (asks place a) 1 0) asked askings in
        omega (arith, rest, more)

-- where none was refused, what was asked for was made
all_made : (place : ℕ) (askings : List Asked) → NoneRefused askings → count_by (is_place place) (made_places askings) ≡ times_asked place askings
all_made place [] none = refl
all_made place (asked ∷ askings) none =
    let made : asked.error ≡ None = none asked (0, omega arith, refl) in
    let rest = all_made place askings (λ a among. none a (contains_there asked askings a among)) in
    let is : made_places (asked ∷ askings) ≡ asked.place ∷ made_places askings = ap (λ (e : Option MakeError). with_place e asked.place (made_places askings)) made in
    let same = ap (count_by (is_place place)) is in
    let here = sum_by-cons (λ (other : ℕ). cond (is_place place other) 1 0) asked.place (made_places askings) in
    let more = sum_by-cons (λ (a : Asked). cond (asks place a) 1 0) asked askings in
    omega (arith, same, rest, here, more)

-- ---- the shares of several

pub flat_made : (shares : List (List Asked)) → flat_map (λ share. share) (map made_places shares) ≡ made_places (all_of shares)
flat_made [] = refl
flat_made (share ∷ shares) =
    flat_map-cons (λ (l : List ℕ). l) (made_places share) (map made_places shares)
    ∙ ap (λ (l : List ℕ). made_places share ++ l) (flat_made shares)
    ∙ sym (made_places-append share (all_of shares))
    ∙ ap made_places (sym (flat_map-cons (λ (l : List Asked). l) share shares))

in_all : (shares : List (List Asked)) (w : ℕ) (share : List Asked) (asked : Asked) → slice_get shares w ≡ Some share → Contains share asked → Contains (all_of shares) asked
in_all [] w share asked at among = absurd (none-some share at)
in_all (first ∷ shares) zero share asked at among =
    let here : Contains first asked = subst (λ (l : List Asked). Contains l asked) (sym (same_Some first share at)) among in
    subst (λ (l : List Asked). Contains l asked) (sym (flat_map-cons (λ (l : List Asked). l) first shares)) (Contains-append_left first (all_of shares) asked here)
in_all (first ∷ shares) (suc w) share asked at among =
    subst (λ (l : List Asked). Contains l asked) (sym (flat_map-cons (λ (l : List Asked). l) first shares)) (Contains-append_right first (all_of shares) asked (in_all shares w share asked at among))

saved_once : (count : ℕ) (shares : List (List Asked)) → EachOnce count shares → NoneRefused (all_of shares) → SavedOnce count (map made_places shares)
saved_once count shares once none place =
    ap (count_by (is_place place)) (flat_made shares) ∙ all_made place (all_of shares) none ∙ once place

saved_at_most : (place : ℕ) (shares : List (List Asked)) → times_saved place (map made_places shares) ≤ times_asked place (all_of shares)
saved_at_most place shares =
    let same = ap (count_by (is_place place)) (flat_made shares) in
    let less = made_asked place (all_of shares) in omega (arith, same, less)

-- who begins with its own, and refuses nothing, saves its own first
begins_with : (share : List Asked) (w : ℕ) → first_place share None ≡ Some w → NoneRefused share → slice_get (made_places share) 0 ≡ Some w
begins_with [] w first none = absurd (none-some w first)
begins_with (asked ∷ askings) w first none =
    let made : asked.error ≡ None = none asked (0, omega arith, refl) in
    ap (λ (e : Option MakeError). slice_get (with_place e asked.place (made_places askings)) 0) made ∙ first

own_first : (count : ℕ) (shares : List (List Asked)) → BeginWithOwn count shares → NoneRefused (all_of shares) → SaveOwnFirst count (map made_places shares)
own_first count shares begin none w share within at =
    let t = got-map made_places shares w share at in
    ap (λ (l : List ℕ). slice_get l 0) (sym t.2) ∙ begins_with t.0 w (begin w t.0 within t.1) (λ asked among. none asked (in_all shares w t.0 asked t.1 among))

-- ---- makers and their stores

module _ {T : Type 0} (places : T → List ℕ) (refusals : T → ℕ) (back : T → ℕ → List ℕ → Type 0) where
  abbrev pub Later : SavingMaker T → SavingMaker T → Type 0
  Later = IsLater asked_of_saving (GivesHead {T = T}) (StaysSavingMaker places refusals back)

  gained_saved : (old new : T) (more : List ℕ) → HasSaved places refusals back old new more → gained_places (places old) (places new) ≡ more
  gained_saved old new more saved = ap (gained_places (places old)) saved.saved ∙ drop_at (places old) more (length (places old)) refl

  pub later_store : (old new : T) (more : List ℕ) → HasSaved places refusals back old new more → IsLaterStore places refusals back old new
  later_store old new more saved = record {
    grown = saved.saved ∙ ap (λ (l : List ℕ). places old ++ l) (sym (gained_saved old new more saved));
    counted = saved.counted;
    keeps = saved.keeps;
  }

  stores_back : (before after : List (SavingMaker T)) → CameBack asked_of_saving (GivesHead {T = T}) (StaysSavingMaker places refusals back) before after
      → StoresCameBack places refusals back (map store_of before) (map store_of after)
  stores_back before after came = record {
    as_many = length-map after store_of ∙ came.as_many ∙ sym (length-map before store_of);
    each = λ w old new a b.
        let t = got-map store_of before w old a in
        let u = got-map store_of after w new b in
        let stays = (came.each w t.0 u.0 t.1 u.1).goes_on in
        let later = later_store t.0.store u.0.store _ stays.store in
        subst (λ (s : T). IsLaterStore places refusals back s new) t.2 (subst (IsLaterStore places refusals back t.0.store) u.2 later);
  }

  -- what each store saved is what its maker made
  pub shares_saved : (before after : List (SavingMaker T)) → ((w : ℕ) (old new : SavingMaker T) → slice_get before w ≡ Some old → slice_get after w ≡ Some new → Later old new)
      → new_places places (map store_of before) (map store_of after) ≡ map made_places (new_askings asked_of_saving before after)
  shares_saved [] after each = refl
  shares_saved (old ∷ before) [] each = refl
  shares_saved (old ∷ before) (new ∷ after) each =
      let here = gained_saved old.store new.store _ (each 0 old new refl refl).goes_on.store in
      let rest = shares_saved before after (λ w o n a b. each (suc w) o n a b) in
      ap (λ (l : List ℕ). l ∷ new_places places (map store_of before) (map store_of after)) here
      ∙ ap (λ (l : List (List ℕ)). made_places (gained old.inverter.asked.items new.inverter.asked.items) ∷ l) rest

  module _ (before after : List (SavingMaker T)) (came : CameBack asked_of_saving (GivesHead {T = T}) (StaysSavingMaker places refusals back) before after) where
    -- where each place was made once, each was saved once
    pub are_saved : (count : ℕ) → EachOnce count (new_askings asked_of_saving before after) → BeginWithOwn count (new_askings asked_of_saving before after) → NoneRefused (all_of (new_askings asked_of_saving before after))
        → AreSaved places refusals back (map store_of before) count (map store_of after)
    are_saved count once begin none =
        let shares = new_askings asked_of_saving before after in
        let is = shares_saved before after came.each in
        record {
          came_back = stores_back before after came;
          once = subst (SavedOnce count) (sym is) (saved_once count shares once none);
          own_first = subst (SaveOwnFirst count) (sym is) (own_first count shares begin none);
        }

    -- where none was asked for twice, none was saved twice
    pub are_saved_in_part : NoneTwice (new_askings asked_of_saving before after) → AreSavedInPart places refusals back (map store_of before) (map store_of after)
    are_saved_in_part twice =
        let shares = new_askings asked_of_saving before after in
        let is = shares_saved before after came.each in
        let none : NoneSavedTwice (map made_places shares) = λ place. let saved = saved_at_most place shares in let asked = twice place in omega (arith, saved, asked) in
        record {
          came_back = stores_back before after came;
          none_twice = subst NoneSavedTwice (sym is) none;
        }

    -- a block that was refused was refused by a store
    pub refused_by : (bounds : List ℕ) → ((w : ℕ) (maker : SavingMaker T) → slice_get before w ≡ Some maker → maker.inverter.bounds.now ≡ bounds) → (place : ℕ) → place + 1 < length bounds
        → Contains (all_of (new_askings asked_of_saving before after)) (asking place (Some make.Refused)) → HasRefused refusals (map store_of before) (map store_of after)
    refused_by bounds are place within among =
        let refused = asking place (Some make.Refused) in
        let of_one = asked_of_one asked_of_saving before after refused among in
        let old = of_one.1 in
        let new = of_one.2 in
        let more = gained old.inverter.asked.items new.inverter.asked.items in
        let stays = (came.each of_one.0 old new of_one.3 of_one.4).goes_on in
        let caused = All-contains (IsOfStore old.inverter.bounds.now (refusals old.store) (refusals new.store)) more refused stays.caused of_one.5 in
        record {
          w = of_one.0;
          old = old.store;
          new = new.store;
          was = get-map store_of before of_one.0 old of_one.3;
          is = get-map store_of after of_one.0 new of_one.4;
          counted = caused (subst (λ (l : List ℕ). place + 1 < length l) (sym (are of_one.0 old of_one.3)) within) refl;
        }
