-- Documents are added to the archive that was found, or to a new one.
use Rattle.std.proofs.Common.{◌≡◌, ◌∙◌, All, List, [], ◌∷◌, ◌++◌, ℕ, Option, None, Some, ap, arith, length, subst, sym, true}
use Rattle.std.specs.Prelude.{◌==◌, map, option_map, slice_get}
use Rattle.std.proofs.lemmas.Bool.{eqb-true}
use Rattle.std.proofs.lemmas.List.{append-nil}
use Rattle.std.proofs.lemmas.List.Elements.{All-head}
use Rattle.ix_files.specs.Slots.{Kept, Place, Slot, Slots, Stops, at_rest}
use Rattle.ix_files.specs.Views.{LeavesOnly, View}
use Rattle.ix_folder.specs.Standings.{NamedFile, RestsIn}
use Rattle.ix_manifest.specs.ManifestText.{ManifestView, view_of}
use Rattle.ix_manifest.specs.declared.manifest.Manifest.{Manifest}
use Rattle.ix_manifest.specs.declared.manifest.Segment.{Segment}
use Rattle.ix_text.specs.Collections.{Document, NamedText, collection_of}
use Rattle.ix_archive.specs.Archives.{Archive}
use Rattle.ix_archive.specs.Folders.{removals_files, segment_files, segment_place}
use Rattle.ix_archive.specs.Layouts.{AreSegmentsOf, IsSegmentOf}
use Rattle.ix_archive_writer.specs.Changes.{after_adding, archive_or, documents_under, with_documents}
use Rattle.ix_archive_writer.specs.Commits.{IsFound, IsLeftArchive, IsReady, LeavesAmong}
use Rattle.ix_archive_writer.proofs.CommitLemmas.{leaves_after, ready_found, ready_leaves, ready_new}

-- there are no documents
pub no_texts : {X Y : Type 0} (f : X → Y) (documents : List X) (texts : List Y) → map f documents ≡ texts → true ≡ (length documents == 0) → texts ≡ []
no_texts f [] texts are none = sym are
no_texts f (document ∷ documents) texts are none = absurd (omega (arith, eqb-true (length (document ∷ documents)) 0 (sym none)))

-- ---- the folder that was found

-- nothing was done
pub found_leaves : {old : View} (folder : List ℕ) (one now : Option Archive) (found : Option ManifestView) → ((left : Slots) → old.left_since old.moment left → Stops old.slots left) → IsFound folder now found old.slots
    → LeavesOnly (IsLeftArchive folder (one ∷ now ∷ [])) old old
found_leaves {old = old} folder one None None only settled = ready_leaves {old = old} one (ready_new [] settled) only
found_leaves folder one None (Some view) only never = absurd never
found_leaves folder one (Some archive) None only never = absurd never
found_leaves {old = old} folder one (Some archive) (Some view) only found = ready_leaves {old = old} one (ready_found found) only

nothing_more : (archive : Archive) → with_documents archive (documents_under archive.stop []) ≡ archive
unfolding collection_of
nothing_more archive = let with_all : List Document → Archive = λ documents. record { stop = archive.stop; documents = documents; removals = archive.removals } in ap with_all (append-nil archive.documents)

-- no documents change nothing
pub nothing_added : (folder : List ℕ) (now : Option Archive) (manifest : Option Manifest) (own : Manifest) (given : List (List ℕ)) (texts : List NamedText) (slots : Slots) → manifest ≡ Some own → texts ≡ []
    → IsFound folder now (option_map view_of manifest) slots → LeavesAmong folder (Some (after_adding now given texts) ∷ []) slots
nothing_added folder now manifest own given texts slots is none found =
    for_archive now (subst (λ (m : Option Manifest). IsFound folder now (option_map view_of m) slots) is found)
  where
    for_archive : (now : Option Archive) → IsFound folder now (Some (view_of own)) slots → LeavesAmong folder (Some (after_adding now given texts) ∷ []) slots
    for_archive None never = absurd never
    for_archive (Some archive) there =
        let same : after_adding (Some archive) given texts ≡ archive = ap (λ (t : List NamedText). with_documents archive (documents_under archive.stop t)) none ∙ nothing_more archive in
        subst (λ (after : Archive). LeavesAmong folder (Some after ∷ []) slots) (sym same) (leaves_after there.laid slots there.settled)

-- What is known of documents that are added to each archive that is ready for them is so of the one that was found.
pub added_found : (folder : List ℕ) (now : Option Archive) (manifest : Option Manifest) (own : Manifest) (given stop : List (List ℕ)) (texts : List NamedText) (slots : Slots) (P : Archive → Type 0) → manifest ≡ Some own
    → stop ≡ (archive_or now given).stop → IsFound folder now (option_map view_of manifest) slots
    → ((base : Archive) → base.stop ≡ stop → IsReady folder now base (view_of own) slots → P (with_documents base (documents_under stop texts))) → P (after_adding now given texts)
added_found folder now manifest own given stop texts slots P is same found each =
    for_archive now (subst (λ (m : Option Manifest). IsFound folder now (option_map view_of m) slots) is found) same each
  where
    for_archive : (now : Option Archive) → IsFound folder now (Some (view_of own)) slots → stop ≡ (archive_or now given).stop
        → ((base : Archive) → base.stop ≡ stop → IsReady folder now base (view_of own) slots → P (with_documents base (documents_under stop texts))) → P (after_adding now given texts)
    for_archive None never same each = absurd never
    for_archive (Some archive) there same each =
        subst (λ (terms : List (List ℕ)). P (with_documents archive (documents_under terms texts))) same (each archive (sym same) (ready_found there))

-- and of a new one, if there is no manifest
pub added_new : (folder : List ℕ) (now : Option Archive) (manifest : Option Manifest) (segments : List Segment) (given stop : List (List ℕ)) (texts : List NamedText) (slots : Slots) (P : Archive → Type 0) → manifest ≡ None
    → segments ≡ [] → stop ≡ (archive_or now given).stop → IsFound folder now (option_map view_of manifest) slots
    → ((base : Archive) → base.stop ≡ stop → IsReady folder now base (record { next = 1; segments = segments; removals = None }) slots → P (with_documents base (documents_under stop texts))) → P (after_adding now given texts)
added_new folder now manifest segments given stop texts slots P is none same found each =
    for_archive now (subst (λ (m : Option Manifest). IsFound folder now (option_map view_of m) slots) is found) same each
  where
    for_archive : (now : Option Archive) → IsFound folder now None slots → stop ≡ (archive_or now given).stop
        → ((base : Archive) → base.stop ≡ stop → IsReady folder now base (record { next = 1; segments = segments; removals = None }) slots → P (with_documents base (documents_under stop texts))) → P (after_adding now given texts)
    for_archive None settled same each =
        subst (λ (terms : List (List ℕ)). P (with_documents (archive_or None given) (documents_under terms texts))) same
        (each (archive_or None given) (sym same) (subst (λ (l : List Segment). IsReady folder None (archive_or None given) (record { next = 1; segments = l; removals = None }) slots) (sym none) (ready_new given settled)))
    for_archive (Some archive) never same each = absurd never

-- ---- the stop terms

-- the first segment has the stop terms of all
first_of : (stop : List (List ℕ)) (folder : List ℕ) (segments : List Segment) (texts : List (List ℕ)) (lists : List (List Document)) (rest : List NamedFile) (segment : Segment) (read : List (List ℕ)) (slots : Slots)
    → AreSegmentsOf stop segments texts lists → All (RestsIn slots) (segment_files folder segments texts ++ rest) → slice_get segments 0 ≡ Some segment
    → ((documents : List Document) (text : List ℕ) → (slots (segment_place folder segment.file)).now ≡ Kept text → IsSegmentOf stop segment text documents → read ≡ stop) → read ≡ stop
first_of stop folder [] texts lists rest segment read slots are files first each = let never : None ≡ Some segment = first in cc
first_of stop folder (one ∷ segments) [] lists rest segment read slots are files first each = absurd are
first_of stop folder (one ∷ segments) (text ∷ texts) [] rest segment read slots are files first each = absurd are
first_of stop folder (one ∷ segments) (text ∷ texts) (list ∷ lists) rest segment read slots are files first each =
    let same : one ≡ segment = let there : Some one ≡ Some segment = first in cc in
    let file : NamedFile = record { place = segment_place folder one.file; bytes = text } in
    let rests : slots (segment_place folder one.file) ≡ at_rest (Kept text) = All-head (RestsIn slots) file (segment_files folder segments texts ++ rest) files in
    each list text (subst (λ (s : Segment). (slots (segment_place folder s.file)).now ≡ Kept text) same (ap (λ (slot : Slot). slot.now) rests)) (subst (λ (s : Segment). IsSegmentOf stop s text list) same are.0)

-- the stop terms that were read are those of the archive
pub stop_read : (folder : List ℕ) (now : Option Archive) (manifest : Option Manifest) (own : Manifest) (given : List (List ℕ)) (segment : Segment) (place : Place) (read : List (List ℕ)) (slots : Slots) → manifest ≡ Some own
    → slice_get own.segments.items 0 ≡ Some segment → place ≡ segment_place folder segment.file → IsFound folder now (option_map view_of manifest) slots
    → ((stop : List (List ℕ)) (documents : List Document) (text : List ℕ) → (slots place).now ≡ Kept text → IsSegmentOf stop segment text documents → read ≡ stop) → read ≡ (archive_or now given).stop
stop_read folder now manifest own given segment place read slots is first at found each =
    for_archive now (subst (λ (m : Option Manifest). IsFound folder now (option_map view_of m) slots) is found)
  where
    for_archive : (now : Option Archive) → IsFound folder now (Some (view_of own)) slots → read ≡ (archive_or now given).stop
    for_archive None never = absurd never
    for_archive (Some archive) there =
        first_of archive.stop folder own.segments.items there.texts there.laid.lists (removals_files folder own.removals there.removals_file) segment read slots there.laid.segments there.settled.files first
        (λ documents text kept of. each archive.stop documents text (subst (λ (p : Place). (slots p).now ≡ Kept text) (sym at) kept) of)

-- those of a new archive are the given ones
pub stop_new : (folder : List ℕ) (now : Option Archive) (manifest : Option Manifest) (given read : List (List ℕ)) (slots : Slots) → manifest ≡ None → IsFound folder now (option_map view_of manifest) slots → read ≡ given
    → read ≡ (archive_or now given).stop
stop_new folder now manifest given read slots is found same = for_archive now (subst (λ (m : Option Manifest). IsFound folder now (option_map view_of m) slots) is found)
  where
    for_archive : (now : Option Archive) → IsFound folder now None slots → read ≡ (archive_or now given).stop
    for_archive None settled = same
    for_archive (Some archive) never = absurd never
