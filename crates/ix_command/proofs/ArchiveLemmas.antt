-- What a stop leaves of an archive that a line changes, by what the call says that changes it.
use Rattle.std.proofs.Common.{◌≡◌, ◌∙◌, ◌⊎◌, ⊎_elim, Contains, List, [], ◌∷◌, ℕ, Option, None, Some, Result, Ok, Err, IfOk, IfErr, OnOk, arith, inl, inr, refl, subst, sym}
use Rattle.std.specs.Prelude.{IsSome}
use Rattle.std.specs.Borrow.{Bor}
use Rattle.clap.specs.Walk.{Text}
use Rattle.ix_text.specs.Collections.{NamedText}
use Rattle.ix_files.specs.Reading.{Holding}
use Rattle.ix_files.specs.Slots.{Slots, Stops}
use Rattle.ix_files.specs.Views.{LeavesOnly, View}
use Rattle.ix_folder.proofs.Laws.{narrowed, stops_at}
use Rattle.ix_archive.specs.Archives.{Archive}
use Rattle.ix_archive.specs.Findings.{RefusesFinding}
use Rattle.ix_archive.specs.Openings.{IsOutside}
use Rattle.ix_archive.specs.declared.read_error.ReadError.{ReadError}
use Rattle.ix_archive.specs.Folders.{IsArchiveAt}
use Rattle.ix_archive_writer.specs.Changes.{after_adding, stop_given}
use Rattle.ix_archive_writer.specs.Commits.{HasWithout, IsLeftArchive, IsLeftOrWithout, LeavesAmong}
use Rattle.ix_merge.proofs.Laying.{contains_cases}
use Rattle.ix_line.specs.declared.removed.Removed.{Removed}
use Rattle.ix_command.specs.AskedFiles.{IsStopHeld}
use Rattle.ix_command.specs.BuiltIndexes.{AreOfFiles}
use Rattle.ix_command.specs.StoredArchives.{AddsFiles, AreNamed, IsLeftOrAdded, IsLeftOrRemoved, KeepsAdding, KeepsRemoving, added_in, not_yet, not_yet_gone, storing_of, with_all, without_all}

-- one of a list with one more is the one or of the list
left_first : (folder : List ℕ) (one : Option Archive) (among : List (Option Archive)) (left : Slots) → IsLeftArchive folder (one ∷ among) left
    → IsLeftArchive folder among left ⊎ IsArchiveAt folder one left
left_first folder one among left is = elim (contains_cases one among is.archive is.named) [
  | inl first ↦ inr (subst (λ (archive : Option Archive). IsArchiveAt folder archive left) (sym first) is.there)
  | inr later ↦ inl (record { archive = is.archive; named = later; there = is.there })
]

-- before the call that changes files, a stop leaves what it could leave
started : {P : Slots → Type 0} (folder : List ℕ) (among : List (Option Archive)) (old : View) → ((left : Slots) → old.left_since old.moment left → Stops old.slots left) → LeavesAmong folder among old.slots
    → ((left : Slots) → IsLeftArchive folder among left → P left) → LeavesOnly P old old
started folder among old only leaves is = record {
  later = omega arith;
  each = λ left was. let there = leaves left (stops_at old.slots left (only left was)) in is left (record { archive = there.0; named = there.1; there = there.2 });
  before = λ t left le was. inl was;
}

-- ---- add

module _ (holds : Holding) (stop_file : Option (Bor Text)) (archive collection : Text) where
  pub not_added_yet : (old : View) → ((left : Slots) → old.left_since old.moment left → Stops old.slots left) → KeepsAdding holds stop_file archive collection old old
  not_added_yet old only among now named leaves there = started (old.folder archive) among old only leaves (λ left is. not_yet is)

  pub keeps_added : (old new : View) (stop : List Text) (documents : List NamedText) → AreOfFiles holds stop_file collection stop documents
      → ((among : List (Option Archive)) (now : Option Archive) → Contains among now → LeavesAmong (old.folder archive) among old.slots → IsArchiveAt (old.folder archive) now old.slots
      → LeavesOnly (IsLeftArchive (old.folder archive) (Some (after_adding now stop documents) ∷ among)) old new)
      → KeepsAdding holds stop_file archive collection old new
  keeps_added old new stop documents of_files moments among now named leaves there =
      narrowed (λ left is. ⊎_elim (λ old_one. not_yet old_one) (λ new_one. with_all stop documents of_files new_one) (left_first (old.folder archive) (Some (after_adding now stop documents)) among left is))
      (moments among now named leaves there)

  pub adds : (old new : View) (stop : List Text) (documents : List NamedText) → AreOfFiles holds stop_file collection stop documents → added_in old new archive stop documents
      → AddsFiles holds (storing_of old new) stop_file archive collection
  adds old new stop documents of_files added = record { stop = stop; documents = documents; of_files = of_files; added = added }

-- what is given are the stop terms that the stop file has
pub given_held : (holds : Holding) (stop_file : Option (Bor Text)) (given : Option (Bor (List Text))) (stop : List Text) → (IsSome stop_file → stop_given given ≡ stop)
    → (stop_file ≡ None → stop_given given ≡ []) → IsStopHeld holds stop_file stop → stop_given given ≡ stop
given_held holds None given stop named none held = none refl ∙ sym held
given_held holds (Some path) given stop named none held = named refl

-- ---- search

-- out of memory, or a read that failed, is no fault of a query
pub outside_refuses : (stop : List Text) (query : Text) (error : ReadError) → IsOutside error → RefusesFinding stop query error
outside_refuses stop query error (inl memory) = subst (RefusesFinding stop query) (sym memory) tt
outside_refuses stop query error (inr read) = subst (RefusesFinding stop query) (sym read) tt

-- ---- remove

module _ (holds : Holding) (names : Removed) (archive : Text) where
  pub not_removed_yet : (old : View) → ((left : Slots) → old.left_since old.moment left → Stops old.slots left) → KeepsRemoving holds names archive old old
  not_removed_yet old only among now named leaves there = started (old.folder archive) among old only leaves (λ left is. not_yet_gone is)

  pub keeps_removed : (old new : View) (texts : List Text) → AreNamed holds names texts
      → ((among : List (Option Archive)) (now : Archive) → Contains among (Some now) → LeavesAmong (old.folder archive) among old.slots → IsArchiveAt (old.folder archive) (Some now) old.slots
      → LeavesOnly (IsLeftOrWithout (old.folder archive) among texts now) old new)
      → KeepsRemoving holds names archive old new
  keeps_removed old new texts are moments among now named leaves there =
      narrowed (λ left is. ⊎_elim (λ old_one. not_yet_gone old_one) (λ new_one. without_all texts are new_one) is) (moments among now named leaves there)
