-- A folder is settled, read and swept, and stays what it is.
use Rattle.std.proofs.Common.{◌≡◌, ◌≢◌, ◌∙◌, ◌⊎◌, All, Contains, List, [], ◌∷◌, ◌++◌, ℕ, Option, None, Some, ap, arith, get_or, inl, inr, length, refl, suc, subst, sym, zero}
use Rattle.std.specs.Prelude.{codes, decimal}
use Rattle.std.proofs.lemmas.List.Elements.{All-nil}
use Rattle.ix_files.specs.Changes.{ChangesOnly, IsOld, StopsAt}
use Rattle.ix_files.specs.Slots.{IsAmong, Kept, Nothing, Place, Slot, Slots, Stops}
use Rattle.ix_files.specs.Steps.{Shares, Stays}
use Rattle.ix_files.specs.Views.{Calls, LeavesOnly, View}
use Rattle.ix_files.proofs.Drafting.{changed, unchanged}
use Rattle.ix_files.proofs.Moments.{place_decided}
use Rattle.ix_merge.proofs.Laying.{contains_cases, contains_later, contains_now}
use Rattle.ix_folder.specs.FolderNames.{IsLeftName, IsStray, lock_place, manifest_place}
use Rattle.ix_folder.specs.Standings.{AreFileNames, AreStops, IsSettled, NamedFile, Standing, Stands, files_of}
use Rattle.ix_folder.proofs.Laws.{leaves_standing, narrowed, stays_settled, stops_at}
use Rattle.ix_manifest.specs.ManifestText.{ManifestView, manifest_text}
use Rattle.ix_manifest.specs.declared.manifest.Removals.{Removals as RemovalsLine}
use Rattle.ix_archive.specs.Archives.{Archive}
use Rattle.ix_archive.specs.Folders.{IsArchiveAt, removals_place, standing_of}
use Rattle.ix_archive_writer.specs.Commits.{AreAllNames, IsFound, IsFoundIn, IsLeftArchive, LeavesAmong}
use Rattle.ix_archive_writer.specs.Readings.{IsManifestOf}
use Rattle.ix_archive_writer.proofs.CommitLemmas.{no_lock}
use Rattle.ix_archive_writer.proofs.Going.{begun, then_leaves}
use Rattle.ix_archive_writer.proofs.Places.{file_names, files_have, if_some}

no_manifest : (folder : List ℕ) (slots : Slots) → (slots (manifest_place folder)).now ≡ Nothing → Stands folder None slots
no_manifest folder slots nothing = record { manifest = nothing; files = λ k d within. absurd (omega (arith, within)) }

no_files : (folder : List ℕ) → AreFileNames folder []
no_files folder k d within = absurd (omega (arith, within))

-- the manifest that is read is that of the archive
pub found_is : (folder : List ℕ) (now : Option Archive) (old new : Slots) (found : Option ManifestView) → IsArchiveAt folder now old
    → ((standing : Option Standing) → Stands folder standing old → AreFileNames folder (files_of standing) → IsSettled folder standing new)
    → IsManifestOf (new (manifest_place folder)).now found → IsFound folder now found new
found_is folder None old new None at settles is = settles None (no_manifest folder old at) (no_files folder)
found_is folder None old new (Some view) at settles is = absurd (is.0 (ap (λ (slot : Slot). slot.now) (settles None (no_manifest folder old at) (no_files folder)).manifest))
found_is folder (Some archive) old new None at settles is =
    let settled = settles (Some (standing_of folder at.view at.texts at.removals_file)) at.stands (file_names folder at.view at.texts at.removals_file) in
    let never : Nothing ≡ Kept (manifest_text at.view) = sym is ∙ ap (λ (slot : Slot). slot.now) settled.manifest in
    cc
found_is folder (Some archive) old new (Some view) at settles is =
    let settled = settles (Some (standing_of folder at.view at.texts at.removals_file)) at.stands (file_names folder at.view at.texts at.removals_file) in
    let same : view ≡ at.view = is.1 at.view at.laid.lawful (ap (λ (slot : Slot). slot.now) settled.manifest) in
    subst (λ (v : ManifestView). IsFoundIn folder archive v new) (sym same) (record { texts = at.texts; removals_file = at.removals_file; laid = at.laid; settled = settled })

-- ---- what nobody names is removed

manifest_not_left : IsLeftName (codes "manifest") → ⊥
manifest_not_left (inl draft) = let longer : 8 ≡ 12 = ap length draft in absurd (omega (arith, longer))
manifest_not_left (inr (inl segment)) = let first : 109 ≡ 115 = ap (λ (name : List ℕ). get_or name 0 0) segment.joined in absurd (omega (arith, first))
manifest_not_left (inr (inr removals)) = let first : 109 ≡ 114 = ap (λ (name : List ℕ). get_or name 0 0) removals.joined in absurd (omega (arith, first))

named_stay : (folder : List ℕ) (view : ManifestView) (texts : List (List ℕ)) (removals_file : Option (List ℕ)) (kept : List (List ℕ)) → AreAllNames (Some view) kept
    → All (λ file. ¬ (IsStray folder kept file.place)) (standing_of folder view texts removals_file).files
named_stay folder view texts removals_file kept named =
    files_have (λ (file : NamedFile). ¬ (IsStray folder kept file.place)) folder view texts removals_file (λ k d within text stray. stray.unnamed (named.0 k d within))
    (if_some (λ (line : RemovalsLine). Contains kept (codes "removals-" ++ decimal line.file)) (λ (line : RemovalsLine). (text : List ℕ) → ¬ (IsStray folder kept (removals_place folder line.file))) view.removals (λ line has text stray. stray.unnamed has) named.1)

module _ (folder : List ℕ) (kept : List (List ℕ)) {old new : View} (changes : ChangesOnly (IsStray folder kept) old new) (honest : new.honest) where
  stays : {standing : Option Standing} → IsSettled folder standing old.slots → All (λ file. ¬ (IsStray folder kept file.place)) (files_of standing) → IsSettled folder standing new.slots
  stays {standing = standing} settled = stays_settled (IsStray folder kept) folder standing changes honest settled (λ stray. manifest_not_left stray.name)

  leaves : {standing : Option Standing} → IsSettled folder standing old.slots → All (λ file. ¬ (IsStray folder kept file.place)) (files_of standing) → LeavesOnly (Stands folder standing) old new
  leaves {standing = standing} settled = leaves_standing (IsStray folder kept) folder standing changes honest settled (λ stray. manifest_not_left stray.name)

  none_named : All {X = NamedFile} (λ file. ¬ (IsStray folder kept file.place)) []
  none_named = All-nil (λ (file : NamedFile). ¬ (IsStray folder kept file.place))

  pub cleared : (now : Option Archive) (found : Option ManifestView) → AreAllNames found kept → IsFound folder now found old.slots → IsFound folder now found new.slots
  cleared None None names settled = stays settled none_named
  cleared None (Some view) names never = absurd never
  cleared (Some archive) None names never = absurd never
  cleared (Some archive) (Some view) names is = record {
    texts = is.texts;
    removals_file = is.removals_file;
    laid = is.laid;
    settled = stays is.settled (named_stay folder view is.texts is.removals_file kept names);
  }

  pub clearing : (now : Option Archive) (found : Option ManifestView) → AreAllNames found kept → IsFound folder now found old.slots → LeavesOnly (IsArchiveAt folder now) old new
  clearing None None names settled = narrowed (λ left stands. stands.manifest) (leaves settled none_named)
  clearing None (Some view) names never = absurd never
  clearing (Some archive) None names never = absurd never
  clearing (Some archive) (Some view) names is = narrowed
      (λ left stands. record { view = view; texts = is.texts; removals_file = is.removals_file; laid = is.laid; stands = stands })
      (leaves is.settled (named_stay folder view is.texts is.removals_file kept names))

-- ---- whatever is at the name of the lock

-- an archive stays if nothing but the lock changes
pub at_but_lock : (folder : List ℕ) (now : Option Archive) (old new : Slots) → ((place : Place) → place ≢ lock_place folder → new place ≡ old place) → IsArchiveAt folder now old → IsArchiveAt folder now new
at_but_lock folder None old new same at = ap (λ (slot : Slot). slot.now) (same (manifest_place folder) (no_lock folder)) ∙ at
at_but_lock folder (Some archive) old new same at = record {
  view = at.view;
  texts = at.texts;
  removals_file = at.removals_file;
  laid = at.laid;
  stands = record {
    manifest = ap (λ (slot : Slot). slot.now) (same (manifest_place folder) (no_lock folder)) ∙ at.stands.manifest;
    files = λ k d within. ap (λ (slot : Slot). slot.now) (same _ (file_names folder at.view at.texts at.removals_file k d within).no_lock) ∙ at.stands.files k d within;
  };
}

-- what is at a place, or else the other
unfoldable picked : {place lock : Place} → (place ≡ lock) ⊎ (place ≢ lock) → Slot → Slot → Slot
picked (inl at) one other = one
picked (inr off) one other = other

picked_off : {place lock : Place} (is : (place ≡ lock) ⊎ (place ≢ lock)) (one other : Slot) → place ≢ lock → picked is one other ≡ other
unfolding picked
picked_off (inl at) one other off = absurd (off at)
picked_off (inr ne) one other off = refl

picked_stops : {place lock : Place} (is : (place ≡ lock) ⊎ (place ≢ lock)) (old left : Slot) → (place ≢ lock → StopsAt old left.now) → StopsAt old (picked is old left).now
unfolding picked
picked_stops (inl at) old left stops = inl refl
picked_stops (inr ne) old left stops = stops ne

-- a stop that left anything at the lock
pub but_lock : (folder : List ℕ) (among : List (Option Archive)) (old left : Slots) → LeavesAmong folder among old → IsOld (λ place. place ≡ lock_place folder) old left → IsLeftArchive folder among left
but_lock folder among old left leaves is_old =
    let lock = lock_place folder in
    let other : Slots = λ place. picked (place_decided place lock) (old place) (left place) in
    let found = leaves other (λ place. picked_stops (place_decided place lock) (old place) (left place) (is_old place)) in
    record {
      archive = found.0;
      named = found.1;
      there = at_but_lock folder found.0 other left (λ place off. sym (picked_off (place_decided place lock) (old place) (left place) off)) found.2;
    }

-- a stop of what is the same but at the lock
pub old_but_lock : (folder : List ℕ) (old mid left : Slots) → ((place : Place) → place ≢ lock_place folder → mid place ≡ old place) → AreStops mid left → IsOld (λ place. place ≡ lock_place folder) old left
old_but_lock folder old mid left same stops place other = subst (λ (slot : Slot). StopsAt slot (left place).now) (same place other) (stops place)

-- what a stop leaves while the folder is locked, and while it is settled
pub settling_leaves : (folder : List ℕ) (among : List (Option Archive)) {old locked settled : View} → LeavesAmong folder among old.slots
    → LeavesOnly (IsOld (λ place. place ≡ lock_place folder) old.slots) old locked → ((place : Place) → place ≢ lock_place folder → locked.slots place ≡ old.slots place)
    → LeavesOnly (AreStops locked.slots) locked settled → LeavesOnly (IsLeftArchive folder among) old settled
settling_leaves folder among {old = old} {locked} leaves lock same settle =
    then_leaves (narrowed (λ left is. but_lock folder among old.slots left leaves is) lock)
    (narrowed (λ left stops. but_lock folder among old.slots left leaves (old_but_lock folder old.slots locked.slots left same stops)) settle)

-- and while it is swept
pub opened_leaves : (folder : List ℕ) (among : List (Option Archive)) (now : Option Archive) {old locked settled new : View} → Contains among now → LeavesAmong folder among old.slots
    → LeavesOnly (IsOld (λ place. place ≡ lock_place folder) old.slots) old locked → ((place : Place) → place ≢ lock_place folder → locked.slots place ≡ old.slots place)
    → LeavesOnly (AreStops locked.slots) locked settled → LeavesOnly (IsArchiveAt folder now) settled new → LeavesOnly (IsLeftArchive folder among) old new
opened_leaves folder among now named leaves lock same settle clear =
    then_leaves (settling_leaves folder among leaves lock same settle) (narrowed (λ left there. record { archive = now; named = named; there = there }) clear)

-- ---- the calls

not_among : (at place : Place) → place ≢ at → ¬ (IsAmong (at ∷ []) place)
not_among at place other (zero, found) = other (let same : Some at ≡ Some place = found in cc)
not_among at place other (suc index, found) = let never : None ≡ Some place = found in cc

-- only the lock's name changes if it is locked
pub lock_changes : {old new : View} (folder : List ℕ) (at : Place) → at ≡ lock_place folder → ((left : Slots) → old.left_since old.moment left → Stops old.slots left) → Calls (Shares (at ∷ [])) old new
    → ChangesOnly (λ place. place ≡ lock_place folder) old new
lock_changes {old = old} folder at is only calls =
    changed (unchanged (λ place. place ≡ lock_place folder) old only) calls (λ slots did place other. did.elsewhere place (not_among at place (λ same. other (same ∙ is))))

-- what the same files have is there in what was not changed
pub nothing_left : {P : Slots → Type 0} (old : View) → ((left : Slots) → old.left_since old.moment left → Stops old.slots left) → ((left : Slots) → AreStops old.slots left → P left) → LeavesOnly P old old
nothing_left old only leaves = begun old only (λ left stops. leaves left (stops_at old.slots left stops))

-- a list of archives with one more
pub among_more : (folder : List ℕ) (one : Option Archive) (among : List (Option Archive)) (left : Slots) → IsLeftArchive folder among left → IsLeftArchive folder (one ∷ among) left
among_more folder one among left is = record { archive = is.archive; named = contains_later one among is.archive is.named; there = is.there }

-- the one that is there is among them
pub among_both : (folder : List ℕ) (one now : Option Archive) (among : List (Option Archive)) (left : Slots) → Contains among now → IsLeftArchive folder (one ∷ now ∷ []) left → IsLeftArchive folder (one ∷ among) left
among_both folder one now among left named is = record {
  archive = is.archive;
  named = elim (contains_cases one (now ∷ []) is.archive is.named) [
    | inl first ↦ subst (Contains (one ∷ among)) first (contains_now one among)
    | inr later ↦ elim (contains_cases now [] is.archive later) [
      | inl second ↦ subst (Contains (one ∷ among)) second (contains_later one among now named)
      | inr none ↦ absurd (omega (arith, none.1))
    ]
  ];
  there = is.there;
}

-- ---- a folder that nothing changed

pub same_places : {old new : View} → ChangesOnly (λ place. ⊥) old new → new.honest → (place : Place) → new.slots place ≡ old.slots place
same_places changes honest place = changes.others honest place (λ none. none)

pub same_stops : {old new : View} (folder : List ℕ) (among : List (Option Archive)) → ChangesOnly (λ place. ⊥) old new → new.honest → LeavesAmong folder among old.slots → LeavesAmong folder among new.slots
same_stops folder among changes honest leaves left stops = leaves left (λ place. subst (λ (slot : Slot). StopsAt slot (left place).now) (same_places changes honest place) (stops place))

pub same_moments : {old new : View} (folder : List ℕ) (among : List (Option Archive)) → ChangesOnly (λ place. ⊥) old new → new.honest → LeavesAmong folder among old.slots → LeavesOnly (IsLeftArchive folder among) old new
same_moments folder among changes honest leaves = narrowed
    (λ left is_old. let found = leaves left (λ place. is_old place (λ none. none)) in record { archive = found.0; named = found.1; there = found.2 })
    (changes.any_moment honest)

pub made_changes : {old new : View} → ((left : Slots) → old.left_since old.moment left → Stops old.slots left) → Calls Stays old new → ChangesOnly (λ place. ⊥) old new
made_changes {old = old} only calls = changed (unchanged (λ place. ⊥) old only) calls (λ slots did place other. did place)
