-- A new manifest takes the place of the one before.
use Rattle.std.proofs.Common.{◌≡◌, ◌≢◌, ◌⊎◌, inl, inr, ⊎_elim, ℕ, List, All, Option, Some, Result, Ok, Err, IfErr, length, sym, ap, subst, ◌∙◌, arith}
use Rattle.ix_files.specs.Changes.{ChangesOnly, IsOld, StopsAt}
use Rattle.ix_files.specs.Drafts.{IsOldOrNew}
use Rattle.ix_files.specs.Slots.{Kept, Place, Slot, Slots, Stops, at_rest}
use Rattle.ix_files.specs.Views.{LeavesOnly, View}
use Rattle.ix_files.proofs.Drafting.{changed_again, unchanged}
use Rattle.ix_folder.specs.FolderNames.{draft_place, manifest_place}
use Rattle.ix_folder.specs.PublishErrors.{IsBefore}
use Rattle.ix_folder.specs.Publishing.{IsPrepared, IsReplaced, Rests}
use Rattle.ix_folder.specs.Standings.{AreFileNames, AreKept, IsEither, IsFileOf, IsFilePlace, IsKeptIn, IsSettled, NamedFile, RestsIn, Standing, Stands, files_of, manifest_of}
use Rattle.ix_folder.specs.declared.publish_error.PublishError.{PublishError}
use Rattle.ix_folder.proofs.Laws.{all_by, kept_left, manifest_left, narrowed, stands_left, widened}

other_names : (folder : List ℕ) → draft_place folder ≢ manifest_place folder
other_names folder same = let long : 12 ≡ 8 = ap (λ (place : Place). length place.name) same in absurd (omega (arith, long))

pub other_places : (folder : List ℕ) (draft manifest : Place) → draft ≡ draft_place folder → manifest ≡ manifest_place folder → draft ≢ manifest
other_places folder draft manifest is_draft is_manifest same = other_names folder (sym is_draft ∙ same ∙ is_manifest)

module _ (folder : List ℕ) (draft : Place) (is_draft : draft ≡ draft_place folder) where
  pub no_manifest : ¬ (manifest_place folder ≡ draft)
  no_manifest same = other_names folder (sym is_draft ∙ sym same)

  pub no_drafts : (files : List NamedFile) → AreFileNames folder files → All (λ file. ¬ (file.place ≡ draft)) files
  no_drafts files names index default low same = (names index default low).no_draft (same ∙ is_draft)

  -- a stop before the rename leaves what was there
  pub before_rename : (now : Option Standing) (slots left : Slots) → AreFileNames folder (files_of now) → IsSettled folder now slots
      → IsOld (λ place. place ≡ draft) slots left → Stands folder now left
  before_rename now slots left names settled old = stands_left (λ place. place ≡ draft) folder now slots left settled no_manifest (no_drafts (files_of now) names) old

  rests_same : (e : Slot) (slot new : Slot) → slot ≡ at_rest e.now → (new ≡ slot) ⊎ (new ≡ at_rest slot.now) → new ≡ at_rest e.now
  rests_same e slot new rest is = ⊎_elim (λ same. same ∙ rest) (λ rests. rests ∙ ap (λ (s : Slot). at_rest s.now) rest) is

  pub still_settled : (now : Option Standing) (old new : Slots) → AreFileNames folder (files_of now) → Rests draft old new → IsSettled folder now old → IsSettled folder now new
  still_settled now old new names rests settled = record {
    manifest = rests_same (at_rest (manifest_of now)) (old (manifest_place folder)) (new (manifest_place folder)) settled.manifest (rests (manifest_place folder) no_manifest);
    files = all_by (RestsIn old) (λ file. ¬ (file.place ≡ draft)) (RestsIn new) (λ file same other. rests_same (at_rest (Kept file.bytes)) (old file.place) (new file.place) same (rests file.place other)) (files_of now) settled.files
        (no_drafts (files_of now) names);
  }

  module _ (manifest : Place) (is_manifest : manifest ≡ manifest_place folder) (text : List ℕ) (old mid : Slots) (prepared : IsPrepared draft text old mid) where
    at_rest_before : (place : Place) → IsFilePlace folder place → mid place ≡ at_rest (old place).now
    at_rest_before place is = prepared.names place (is.inside ∙ sym (ap (λ (p : Place). p.folder) is_draft)) (λ same. is.no_draft (same ∙ is_draft))

    pub published : (named : List NamedFile) (new : Slots) → AreFileNames folder named → AreKept named old → IsReplaced draft manifest mid new
        → IsSettled folder (Some (record { manifest = text; files = named })) new
    published named new names are_kept replaced = record {
      manifest = subst (λ (place : Place). new place ≡ at_rest (Kept text)) is_manifest (replaced.there ∙ ap at_rest prepared.written);
      files = all_by (IsKeptIn old) (IsFileOf folder) (RestsIn new) (λ file is_kept is. replaced.names file.place (is.inside ∙ sym (ap (λ (p : Place). p.folder) is_manifest)) (λ same. is.no_draft (same ∙ is_draft)) (λ same. is.no_manifest (same ∙ is_manifest))
          ∙ ap at_rest (ap (λ (slot : Slot). slot.now) (at_rest_before file.place is) ∙ is_kept)) named are_kept names;
    }

    module _ (now : Option Standing) (names : AreFileNames folder (files_of now)) (settled : IsSettled folder now old) (left : Slots)
        (is_left : IsOldOrNew (λ place. place ≡ draft) manifest text mid left) where
      file_left : (place : Place) (bytes : List ℕ) → IsFilePlace folder place → (old place).now ≡ Kept bytes → (left place).now ≡ Kept bytes
      file_left place bytes is is_kept = ⊎_elim
          (λ stops. kept_left bytes (left place).now (subst (λ (slot : Slot). StopsAt slot (left place).now) (at_rest_before place is ∙ ap at_rest is_kept) stops))
          (λ new. absurd (is.no_manifest (new.0 ∙ is_manifest)))
          (is_left place (λ same. is.no_draft (same ∙ is_draft)))

      files_left : (files : List NamedFile) → AreFileNames folder files → AreKept files old → AreKept files left
      files_left files are are_kept = all_by (IsFileOf folder) (IsKeptIn old) (IsKeptIn left) (λ file is is_kept. file_left file.place file.bytes is is_kept) files are are_kept

      manifest_before : mid manifest ≡ at_rest (manifest_of now)
      manifest_before = prepared.names manifest (ap (λ (p : Place). p.folder) is_manifest ∙ sym (ap (λ (p : Place). p.folder) is_draft))
          (λ same. no_manifest (sym is_manifest ∙ same)) ∙ ap (λ (place : Place). at_rest (old place).now) is_manifest ∙ ap (λ (slot : Slot). at_rest slot.now) settled.manifest

      -- a stop from then on leaves what was there, or the new manifest
      pub after_names : (named : List NamedFile) → AreFileNames folder named → AreKept named old
          → IsEither folder now (Some (record { manifest = text; files = named })) left
      after_names named named_are named_kept = ⊎_elim
          (λ stops. inl (record {
            manifest = subst (λ (place : Place). (left place).now ≡ manifest_of now) is_manifest
                (manifest_left now (left manifest).now (subst (λ (slot : Slot). StopsAt slot (left manifest).now) manifest_before stops));
            files = files_left (files_of now) names (all_by (RestsIn old) (IsFileOf folder) (IsKeptIn old) (λ file same is. ap (λ (slot : Slot). slot.now) same) (files_of now) settled.files names);
          }))
          (λ new. inr (record {
            manifest = subst (λ (place : Place). (left place).now ≡ Kept text) is_manifest new.1;
            files = files_left named named_are named_kept;
          }))
          (is_left manifest (λ same. no_manifest (sym is_manifest ∙ same)))

-- what changes in the folder
module _ (folder : List ℕ) (draft : Place) (is_draft : draft ≡ draft_place folder) {old mid : View} where
  pub prepared_in : ChangesOnly (λ place. place.folder ≡ draft.folder) old mid → ChangesOnly (λ place. place.folder ≡ folder) old mid
  prepared_in changes = widened (λ place. place.folder ≡ draft.folder) (λ place. place.folder ≡ folder) (λ place inside. inside ∙ ap (λ (p : Place). p.folder) is_draft) changes

  pub replaced_in : (manifest : Place) → manifest ≡ manifest_place folder → {new : View} → ChangesOnly (λ place. place.folder ≡ draft.folder) old mid
      → ChangesOnly (λ place. (place.folder ≡ draft.folder) ⊎ (place.folder ≡ manifest.folder)) mid new → (new.honest → mid.honest)
      → ChangesOnly (λ place. place.folder ≡ folder) old new
  replaced_in manifest is_manifest prepared replaced honest = changed_again (prepared_in prepared)
      (widened (λ place. (place.folder ≡ draft.folder) ⊎ (place.folder ≡ manifest.folder)) (λ place. place.folder ≡ folder)
      (λ place either. ⊎_elim (λ inside. inside ∙ ap (λ (p : Place). p.folder) is_draft) (λ inside. inside ∙ ap (λ (p : Place). p.folder) is_manifest) either) replaced)
      honest

-- a claim of each error before the rename
pub if_before : {T P : Type 0} (result : Result T PublishError) → P → IfErr result (λ error. IsBefore error → P)
if_before (Ok value) claim = tt
if_before (Err error) claim = λ before. claim

-- before the first call
pub nothing_done : (folder : List ℕ) (now new : Option Standing) (old : View) → ((left : Slots) → old.left_since old.moment left → Stops old.slots left) → old.honest
    → IsSettled folder now old.slots → LeavesOnly (IsEither folder now new) old old
nothing_done folder now new old only honest settled =
    narrowed (λ left is_old. inl (stands_left (λ place. ⊥) folder now old.slots left settled (λ none. none) (λ index default low none. none) is_old))
    ((unchanged (λ place. ⊥) old only).any_moment honest)
