-- An archive without the documents that were found, and what stops leave while they are removed.
use Rattle.std.proofs.Common.{◌≡◌, ◌∙◌, ◌⊎◌, ◌↔◌, ◌<◌, ◌^◌, ℕ, List, [], ◌∷◌, ◌++◌, All, Contains, Option, Some, ap, arith, inl, inr, length, subst, sym}
use Rattle.std.proofs.lemmas.List.Elements.{All-cons, All-head, All-nil, All-tail}
use Rattle.ix_files.specs.Slots.{Slot, Slots, Stops}
use Rattle.ix_files.specs.Views.{LeavesOnly, View}
use Rattle.ix_text.specs.Collections.{Document, IsName}
use Rattle.ix_folder.specs.Standings.{AreKept, AreStops, IsKeptIn, Standing, Stands}
use Rattle.ix_folder.proofs.Laws.{settled_leaves, stops_at}
use Rattle.ix_gram.proofs.Ascending.{none_in_nil}
use Rattle.ix_manifest.specs.ManifestText.{ManifestView}
use Rattle.ix_merge.proofs.Laying.{contains_cases, contains_now}
use Rattle.ix_removals.specs.RemovalsText.{IsRemoved, Removal}
use Rattle.ix_archive.specs.Archives.{Archive, joined}
use Rattle.ix_archive.specs.Folders.{IsArchiveAt, removals_files, segment_files, standing_of}
use Rattle.ix_archive_writer.specs.Changes.{IsNewlyGone, IsWithout, names_in, with_removed}
use Rattle.ix_archive_writer.specs.Commits.{IsFoundIn, IsLeftArchive, IsLeftOrWithout, LeavesAmong, LeavesWithout}
use Rattle.ix_archive_writer.specs.Takings.{AreTaken, AsksFor, Removes}
use Rattle.ix_archive_writer.proofs.Going.{begun}
use Rattle.ix_archive_writer.proofs.RemovalLemmas.{lawful_names, newly_gone, removes_none, removes_taken, without}

-- ---- what was found

module _ (names : List (List ℕ)) (archive : Archive) (removed : List Removal) (documents : List Document) (taken : List (List ℕ)) (total : ℕ) (same : removed ≡ archive.removals) (documents_are : archive.documents ≡ documents)
    (lawful : All (λ d. IsName d.name) documents) (fits : total < 2 ^ 64) (told : (asked : List Removal) × AsksFor names asked × AreTaken asked removed (names_in documents) taken × (total ≡ length documents)) where
  counted : total ≡ length archive.documents
  counted = told.3 ∙ ap length (sym documents_are)

  lawful_too : All (λ d. IsName d.name) archive.documents
  lawful_too = subst (All (λ (d : Document). IsName d.name)) (sym documents_are) lawful

  are_taken : AreTaken told.0 archive.removals (names_in archive.documents) taken
  are_taken = subst (λ (ds : List Document). AreTaken told.0 archive.removals (names_in ds) taken) (sym documents_are) (subst (λ (rs : List Removal). AreTaken told.0 rs (names_in documents) taken) same told.2)

  pub gone_anew : IsNewlyGone names archive (length taken)
  gone_anew = newly_gone names archive told.0 taken lawful_too (omega (arith, counted, fits)) told.1 are_taken

  pub is_without : (removals : List Removal) → Removes archive.removals taken (length archive.documents) removals → IsWithout names archive (with_removed archive removals)
  is_without = without names archive told.0 taken lawful_too (omega (arith, counted, fits)) told.1 are_taken

  -- nothing changes if no document was found
  pub is_itself : taken ≡ [] → IsWithout names archive archive
  is_itself none = is_without archive.removals (subst (λ (l : List (List ℕ)). Removes archive.removals l (length archive.documents) archive.removals) (sym none) (removes_none archive.removals (length archive.documents)))

  -- the removals that are written remove the documents that were found
  pub removes_found : (below : ℕ) (removals : List Removal) → (0 < total → below ≡ total)
      → ((name : List ℕ) (number : ℕ) → IsRemoved removals name number ↔ (IsRemoved removed name number ⊎ ((Contains taken name × IsName name) × (number < below)))) → Removes archive.removals taken (length archive.documents) removals
  removes_found below removals bound exact =
      removes_taken told.0 archive.removals archive.documents taken below removals lawful_too are_taken (λ some. bound (omega (arith, some, counted)) ∙ counted)
      (λ name number. subst (λ (rs : List Removal). IsRemoved removals name number ↔ (IsRemoved rs name number ⊎ ((Contains taken name × IsName name) × (number < below)))) same (exact name number))

-- ---- the files of what is there

all_left : {X : Type 0} (P : X → Type 0) (xs ys : List X) → All P (xs ++ ys) → All P xs
all_left P [] ys all = All-nil P
all_left P (x ∷ xs) ys all = All-cons P x xs (All-head P x (xs ++ ys) all) (all_left P xs ys (All-tail P x (xs ++ ys) all))

all_right : {X : Type 0} (P : X → Type 0) (xs ys : List X) → All P (xs ++ ys) → All P ys
all_right P [] ys all = all
all_right P (x ∷ xs) ys all = all_right P xs ys (All-tail P x (xs ++ ys) all)

module _ {folder : List ℕ} {archive : Archive} {view : ManifestView} {slots : Slots} (found : IsFoundIn folder archive view slots) where
  files_kept : AreKept (segment_files folder view.segments found.texts ++ removals_files folder view.removals found.removals_file) slots
  files_kept = λ k d within. ap (λ (slot : Slot). slot.now) (found.settled.files k d within)

  pub segments_kept : AreKept (segment_files folder view.segments found.texts) slots
  segments_kept = all_left (IsKeptIn slots) (segment_files folder view.segments found.texts) (removals_files folder view.removals found.removals_file) files_kept

  pub removals_kept : AreKept (removals_files folder view.removals found.removals_file) slots
  removals_kept = all_right (IsKeptIn slots) (segment_files folder view.segments found.texts) (removals_files folder view.removals found.removals_file) files_kept

  -- each stop leaves the archive
  left_there : (left : Slots) → AreStops slots left → IsArchiveAt folder (Some archive) left
  left_there left stops =
      let kept = settled_leaves folder (Some (standing_of folder view found.texts found.removals_file)) slots found.settled left stops in
      record { view = view; texts = found.texts; removals_file = found.removals_file; laid = found.laid; stands = subst (λ (standing : Option Standing). Stands folder standing left) kept.1 kept.2 }

  -- which is the one without the documents of these names, if there are none
  pub leaves_itself : (names : List (List ℕ)) → IsWithout names archive archive → LeavesWithout folder names archive slots
  leaves_itself names itself left stops = record { after = archive; without = itself; there = left_there left stops }

-- nothing was done
pub as_found : {folder : List ℕ} {archive : Archive} {view : ManifestView} (names : List (List ℕ)) (old : View) → ((left : Slots) → old.left_since old.moment left → Stops old.slots left) → IsFoundIn folder archive view old.slots
    → LeavesOnly (IsLeftOrWithout folder (Some archive ∷ []) names archive) old old
as_found {archive = archive} names old only found =
    begun old only (λ left stops. inl (record { archive = Some archive; named = contains_now (Some archive) []; there = left_there found left (stops_at old.slots left stops) }))

-- ---- what a commit leaves

-- the one archive that there may be
pub leaves_without : (folder : List ℕ) (names : List (List ℕ)) (archive after : Archive) (slots : Slots) → IsWithout names archive after → LeavesAmong folder (Some after ∷ []) slots → LeavesWithout folder names archive slots
leaves_without folder names archive after slots without leaves left stops =
    let found = leaves left stops in
    elim (contains_cases (Some after) [] found.0 found.1) [
      | inl is ↦ record { after = after; without = without; there = subst (λ (one : Option Archive). IsArchiveAt folder one left) (sym is) found.2 }
      | inr none ↦ absurd (none_in_nil found.0 none)
    ]

-- the one before, or the one after
pub left_or_without : (folder : List ℕ) (names : List (List ℕ)) (archive after : Archive) → IsWithout names archive after → (left : Slots) → IsLeftArchive folder (Some after ∷ Some archive ∷ []) left
    → IsLeftOrWithout folder (Some archive ∷ []) names archive left
left_or_without folder names archive after without left is =
    elim (contains_cases (Some after) (Some archive ∷ []) is.archive is.named) [
      | inl new ↦ inr (record { after = after; without = without; there = subst (λ (one : Option Archive). IsArchiveAt folder one left) (sym new) is.there })
      | inr old ↦ inl (record { archive = is.archive; named = old; there = is.there })
    ]

-- one of those that there may have been before
pub among_left : (folder : List ℕ) (among : List (Option Archive)) (names : List (List ℕ)) (archive : Archive) → Contains among (Some archive) → (left : Slots) → IsLeftOrWithout folder (Some archive ∷ []) names archive left
    → IsLeftOrWithout folder among names archive left
among_left folder among names archive named left (inr without) = inr without
among_left folder among names archive named left (inl is) =
    elim (contains_cases (Some archive) [] is.archive is.named) [
      | inl same ↦ inl (record { archive = is.archive; named = subst (Contains among) same named; there = is.there })
      | inr none ↦ absurd (none_in_nil is.archive none)
    ]

-- ---- what was found of the archive that is there

module _ {folder : List ℕ} {archive : Archive} {view : ManifestView} {slots : Slots} (found : IsFoundIn folder archive view slots) (names : List (List ℕ)) (removed : List Removal) (taken : List (List ℕ)) (total : ℕ) (same : removed ≡ archive.removals)
    (fits : total < 2 ^ 64) (told : (asked : List Removal) × AsksFor names asked × AreTaken asked removed (names_in (joined found.laid.lists)) taken × (total ≡ length (joined found.laid.lists))) where
  lawful_found : All (λ d. IsName d.name) (joined found.laid.lists)
  lawful_found = lawful_names archive.stop view.segments found.texts found.laid.lists found.laid.segments

  pub found_gone : (count : ℕ) → length taken ≡ count → IsNewlyGone names archive count
  found_gone count is = subst (IsNewlyGone names archive) is (gone_anew names archive removed (joined found.laid.lists) taken total same found.laid.documents lawful_found fits told)

  pub found_without : (removals : List Removal) → Removes archive.removals taken (length archive.documents) removals → IsWithout names archive (with_removed archive removals)
  found_without = is_without names archive removed (joined found.laid.lists) taken total same found.laid.documents lawful_found fits told

  pub found_itself : taken ≡ [] → IsWithout names archive archive
  found_itself = is_itself names archive removed (joined found.laid.lists) taken total same found.laid.documents lawful_found fits told

  pub found_removes : (below : ℕ) (removals : List Removal) (texts : List (List ℕ)) → texts ≡ taken → (0 < total → below ≡ total)
      → ((name : List ℕ) (number : ℕ) → IsRemoved removals name number ↔ (IsRemoved removed name number ⊎ ((Contains texts name × IsName name) × (number < below)))) → Removes archive.removals taken (length archive.documents) removals
  found_removes below removals texts are bound exact =
      removes_found names archive removed (joined found.laid.lists) taken total same found.laid.documents lawful_found fits told below removals bound
      (subst (λ (l : List (List ℕ)). (name : List ℕ) (number : ℕ) → IsRemoved removals name number ↔ (IsRemoved removed name number ⊎ ((Contains l name × IsName name) × (number < below)))) are exact)
