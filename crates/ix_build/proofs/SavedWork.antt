-- What makers that save come back with: the head of each block's run, and stores that saved each place once.
use Rattle.std.proofs.Common.{◌≡◌, ℕ, zero, suc, ◌+◌, ◌<◌, ◌≤◌, cond, List, [], ◌∷◌, ◌++◌, length, map, All, Contains, refl, sym, ap, subst, ◌∙◌, arith}
use Rattle.std.specs.Prelude.{Some, nat_lt, slice_get, slice_set, flat_map}
use Rattle.std.specs.List.{count_by}
use Rattle.std.proofs.lemmas.Bool.Decides.{nat_tests}
use Rattle.std.proofs.lemmas.List.{append-nil, drop_all}
use Rattle.std.proofs.lemmas.List.Concat.{flat_map-cons}
use Rattle.std.proofs.lemmas.Option.{none-some, same_Some}
use Rattle.ix_board.proofs.Closings.{got-All}
use Rattle.ix_text.specs.Collections.{NamedText}
use Rattle.ix_run.specs.RunHead.{RunHead}
use Rattle.ix_pool.specs.declared.maker.MakeError.{MakeError}
use Rattle.ix_pool.specs.declared.maker.MakeError.TheVariants as make
use Rattle.ix_pool.specs.declared.maker.Asked.{Asked}
use Rattle.ix_build.specs.declared.saving_maker.SavingMaker.{SavingMaker}
use Rattle.ix_pool.specs.Askings.{asking, times_asked}
use Rattle.ix_pool.specs.Outcomes.{IsMade, IsRefusedAt, IsStopped}
use Rattle.ix_build.specs.SavedBlocks.{AreHeadsOf, FailsToSave, unsaved_at}
use Rattle.ix_build.specs.SavingMakers.{GivesHead, HasSaved, IsHeadOfBlock, IsSavingMakerOf, StaysSavingMaker, asked_of_saving, store_of}
use Rattle.ix_pool.specs.Shares.{NoneTwice, all_of, new_askings}
use Rattle.ix_build.specs.Stores.{AreSaved, AreSavedInPart, HasRefused, IsLaterStore, IsLowestUnsaved, SaveOwnFirst, SavedOnce, StoresCameBack, gained_places, is_place, new_places, times_saved}
use Rattle.ix_build.proofs.BlockMaking.{counted_there, weight_within}
use Rattle.ix_build.proofs.LowestUnsaved.{lowest_unsaved}
use Rattle.ix_build.proofs.SavedPlaces.{are_saved, are_saved_in_part, later_store, refused_by, shares_saved}
use Rattle.ix_build.specs.SavingLaws.{saved_none}

at_most_one : (k n times : ℕ) → times ≡ cond (nat_lt k n) 1 0 → times ≤ 1
at_most_one k n times is = grind (arith, nat_tests)

module _ {T : Type 0} (places : T → List ℕ) (refusals : T → ℕ) (back : T → ℕ → List ℕ → Type 0) where
  abbrev Made : List (SavingMaker T) → ℕ → List (SavingMaker T) → List RunHead → Type 0
  Made = IsMade asked_of_saving (GivesHead {T = T}) (StaysSavingMaker places refusals back)

  abbrev Refused : List (SavingMaker T) → ℕ → List (SavingMaker T) → ℕ → MakeError → Type 0
  Refused = IsRefusedAt asked_of_saving (GivesHead {T = T}) (StaysSavingMaker places refusals back)

  abbrev Stopped : List (SavingMaker T) → List (SavingMaker T) → Type 0
  Stopped = IsStopped asked_of_saving (GivesHead {T = T}) (StaysSavingMaker places refusals back)

  -- ---- no work was begun

  nothing_saved : (stores : List T) → flat_map (λ share. share) (new_places places stores stores) ≡ []
  nothing_saved [] = refl
  nothing_saved (store ∷ stores) =
      let none : gained_places (places store) (places store) ≡ [] = drop_all (length (places store)) (places store) (omega arith) in
      flat_map-cons (λ (l : List ℕ). l) (gained_places (places store) (places store)) (new_places places stores stores)
      ∙ ap (λ (l : List ℕ). l ++ flat_map (λ share. share) (new_places places stores stores)) none ∙ nothing_saved stores

  pub not_begun : (stores : List T) → AreSavedInPart places refusals back stores stores
  not_begun stores = record {
    came_back = record {
      as_many = refl;
      each = λ w old new a b.
          subst (IsLaterStore places refusals back old) (same_Some old new (sym a ∙ b)) (later_store places refusals back old old [] (saved_none places refusals back old));
    };
    none_twice = λ place. subst (λ (l : List ℕ). count_by (is_place place) l ≤ 1) (sym (nothing_saved stores)) (omega arith);
  }

  -- ---- all makers worked

  module _ (stores : List T) (makers after : List (SavingMaker T)) (are : map store_of makers ≡ stores) (count : ℕ) where
    pub all_saved : (heads : List RunHead) → Made makers count after heads → AreSaved places refusals back stores count (map store_of after)
    all_saved heads made =
        subst (λ (l : List T). AreSaved places refusals back l count (map store_of after)) are
        (are_saved places refusals back makers after made.back count made.once made.begin made.none_refused)

    in_part : NoneTwice (new_askings asked_of_saving makers after) → Stopped makers after → AreSavedInPart places refusals back stores (map store_of after)
    in_part twice stopped = subst (λ (l : List T). AreSavedInPart places refusals back l (map store_of after)) are (are_saved_in_part places refusals back makers after stopped.back twice)

    pub stopped_in_part : Stopped makers after → AreSavedInPart places refusals back stores (map store_of after)
    stopped_in_part stopped = in_part stopped.none_twice stopped

    pub fails_at : (texts : List NamedText) (stop : List (List ℕ)) (bounds : List ℕ) → All (IsSavingMakerOf texts stop bounds) makers → count + 1 ≡ length bounds
        → (place : ℕ) (error : MakeError) → Refused makers count after place error → FailsToSave places refusals back stores count (map store_of after) (unsaved_at place error)
    fails_at texts stop bounds each size place error refused = by error refused.lowest.refused
      where
        shares : List (List Asked)
        shares = new_askings asked_of_saving makers after

        within : place < count
        within =
            let counted : 0 < times_asked place (all_of shares) = counted_there (all_of shares) (asking place (Some error)) refused.lowest.refused in
            weight_within place count (times_asked place (all_of shares)) (refused.once place) counted

        part : AreSavedInPart places refusals back stores (map store_of after)
        part =
            let twice : NoneTwice shares = λ k. at_most_one k count (times_asked k (all_of shares)) (refused.once k) in
            in_part twice (record { back = refused.back; none_twice = twice })

        lowest : IsLowestUnsaved (new_places places stores (map store_of after)) place
        lowest =
            let saved = lowest_unsaved count shares place error refused.once within refused.lowest in
            subst (λ (l : List T). IsLowestUnsaved (new_places places l (map store_of after)) place) are
            (subst (λ (l : List (List ℕ)). IsLowestUnsaved l place) (sym (shares_saved places refusals back makers after refused.back.each)) saved)

        by : (e : MakeError) → Contains (all_of shares) (asking place (Some e)) → FailsToSave places refusals back stores count (map store_of after) (unsaved_at place e)
        by make.Refused among =
            let bounds_are : (w : ℕ) (maker : SavingMaker T) → slice_get makers w ≡ Some maker → maker.inverter.bounds.now ≡ bounds =
            λ w maker at. (got-All (IsSavingMakerOf texts stop bounds) makers w maker each at).bounds_are in
            let here = within in
            let has = refused_by places refusals back makers after refused.back bounds bounds_are place (omega (arith, size, here)) among in
            (within, part, lowest, subst (λ (l : List T). HasRefused refusals l (map store_of after)) are has)
        by make.Memory among = part

    -- each head is that of its block
    pub heads_of_blocks : (texts : List NamedText) (stop : List (List ℕ)) (bounds : List ℕ) → All (IsSavingMakerOf texts stop bounds) makers → count + 1 ≡ length bounds
        → (heads : List RunHead) → Made makers count after heads → AreHeadsOf texts stop bounds heads
    heads_of_blocks texts stop bounds each size heads made = record {
      as_many = let many = made.as_many in omega (arith, many, size);
      each = λ place head at.
          let is = made.made place head at in
          let maker = got-All (IsSavingMakerOf texts stop bounds) makers is.w is.maker each is.numbered in
          let inverter = is.maker.inverter in
          let P : List NamedText → Type 0 = λ l. IsHeadOfBlock l inverter.stop.now inverter.bounds.now place head in
          let Q : List (List ℕ) → Type 0 = λ l. IsHeadOfBlock texts l inverter.bounds.now place head in
          let R : List ℕ → Type 0 = λ l. IsHeadOfBlock texts stop l place head in
          subst R maker.bounds_are (subst Q maker.stop_is (subst P maker.texts_are is.given));
    }

  -- ---- the first store was read back

  later_on : (old store new : T) → IsLaterStore places refusals back old store → HasSaved places refusals back store new [] → IsLaterStore places refusals back old new
  later_on old store new later saved =
      let same : places new ≡ places store = saved.saved ∙ append-nil (places store) in
      let one = later.counted in
      let two = saved.counted in
      record {
        grown = subst (λ (l : List ℕ). l ≡ places old ++ gained_places (places old) l) (sym same) later.grown;
        counted = omega (arith, one, two);
        keeps = λ place bytes. (λ h. (later.keeps place bytes).0 ((saved.keeps place bytes).0 h), λ h. (saved.keeps place bytes).1 ((later.keeps place bytes).1 h));
      }

  same_places : (before : List T) (store new : T) (rest : List T) → places new ≡ places store → new_places places before (new ∷ rest) ≡ new_places places before (store ∷ rest)
  same_places [] store new rest same = refl
  same_places (old ∷ before) store new rest same = ap (λ (l : List ℕ). gained_places (places old) l ∷ new_places places before rest) same

  came_on : (before : List T) (store new : T) (rest : List T) → HasSaved places refusals back store new [] → StoresCameBack places refusals back before (store ∷ rest) → StoresCameBack places refusals back before (new ∷ rest)
  came_on before store new rest saved came = record { as_many = came.as_many; each = by }
    where
      by : (w : ℕ) (old other : T) → slice_get before w ≡ Some old → slice_get (new ∷ rest) w ≡ Some other → IsLaterStore places refusals back old other
      by zero old other a b = subst (IsLaterStore places refusals back old) (same_Some new other b) (later_on old store new (came.each 0 old store a refl) saved)
      by (suc w) old other a b = came.each (suc w) old other a b

  pub saved_on : (before : List T) (count : ℕ) (store new : T) (rest : List T) → HasSaved places refusals back store new [] → AreSaved places refusals back before count (store ∷ rest) → AreSaved places refusals back before count (new ∷ rest)
  saved_on before count store new rest saved are =
      let same = sym (same_places before store new rest (saved.saved ∙ append-nil (places store))) in
      record {
        came_back = came_on before store new rest saved are.came_back;
        once = subst (SavedOnce count) same are.once;
        own_first = subst (SaveOwnFirst count) same are.own_first;
      }

  pub saved_on_first : (before : List T) (count : ℕ) (after : List T) (store new : T) → slice_get after 0 ≡ Some store → HasSaved places refusals back store new [] → AreSaved places refusals back before count after
      → AreSaved places refusals back before count (slice_set after 0 new)
  saved_on_first before count [] store new at saved are = absurd (none-some store at)
  saved_on_first before count (first ∷ rest) store new at saved are =
      saved_on before count first new rest (subst (λ (s : T). HasSaved places refusals back s new []) (sym (same_Some first store at)) saved) are

  -- what was saved once was not saved twice
  pub saved_in_part : (before : List T) (count : ℕ) (after : List T) → AreSaved places refusals back before count after → AreSavedInPart places refusals back before after
  saved_in_part before count after are = record {
    came_back = are.came_back;
    none_twice = λ place. at_most_one place count (times_saved place (new_places places before after)) (are.once place);
  }
