-- A commit, in terms of archives: files that are new are written beside those that are there, and then the manifest is published.
use Rattle.std.proofs.Common.{◌≡◌, ◌≢◌, ◌∙◌, ◌+◌, ◌<◌, ◌^◌, ⊎_elim, All, List, [], ◌∷◌, ◌++◌, ℕ, Option, None, Some, ap, arith, get_or, length, lit<, refl, subst, sym}
use Rattle.std.proofs.lemmas.List.Elements.{All-append, All-cons, All-head, All-nil, All-tail}
use Rattle.ix_files.specs.Changes.{ChangesOnly}
use Rattle.ix_files.specs.Slots.{Kept, Place, Slot, Slots, Stops}
use Rattle.ix_files.specs.Views.{LeavesOnly, View}
use Rattle.ix_folder.specs.FolderNames.{lock_place, manifest_place}
use Rattle.ix_folder.specs.Standings.{AreFileNames, AreKept, IsEither, IsFilePlace, IsSettled, NamedFile, Standing, Stands, files_of}
use Rattle.ix_folder.proofs.Laws.{leaves_standing, narrowed, settled_leaves, stays_settled, stops_at}
use Rattle.ix_manifest.specs.ManifestText.{ManifestView, manifest_text}
use Rattle.ix_manifest.specs.declared.manifest.Removals.{Removals as RemovalsLine}
use Rattle.ix_manifest.specs.declared.manifest.Segment.{Segment}
use Rattle.ix_manifest.proofs.LawfulLemmas.{no_segments}
use Rattle.ix_removals.specs.RemovalsText.{Removal}
use Rattle.ix_text.specs.Collections.{Document}
use Rattle.ix_archive.specs.Archives.{Archive}
use Rattle.ix_archive.specs.Folders.{IsArchiveAt, removals_files, removals_place, segment_files, segment_place, standing_of}
use Rattle.ix_archive.specs.Layouts.{AreSegmentsOf, IsLaidOut, IsRemovalsFile}
use Rattle.ix_archive_writer.specs.Changes.{IsFitLine, IsNewSegment, IsWritten, archive_or, with_documents, with_removals, with_removed, with_segment}
use Rattle.ix_archive_writer.specs.Commits.{IsCommit, IsFoundIn, IsLeftArchive, IsReady, LeavesAmong}
use Rattle.ix_archive_writer.proofs.Going.{begun}
use Rattle.ix_archive_writer.proofs.Laying.{laid, laid_added, laid_removed, manifest_removed}
use Rattle.ix_archive_writer.proofs.Places.{file_names, no_next_removals, no_next_segment, removals_is_file, segment_is_file}

-- ---- a folder that is ready stays so while one new file is written

-- the files of a standing are on the disk
kept_now : {folder : List ℕ} {standing : Option Standing} {slots : Slots} → IsSettled folder standing slots → AreKept (files_of standing) slots
kept_now settled = λ k d within. ap (λ (slot : Slot). slot.now) (settled.files k d within)

module _ {folder : List ℕ} {now : Option Archive} {base : Archive} {view : ManifestView} {place : Place} {old new : View} (ready : IsReady folder now base view old.slots)
    (is_file : IsFilePlace folder place) (apart : All (λ file. file.place ≢ place) (standing_of folder view ready.texts ready.removals_file).files)
    (changes : ChangesOnly (λ other. other ≡ place) old new) (honest : new.honest) where
  others : All (λ file. file.place ≢ place) (files_of ready.standing)
  others = subst (All (λ (file : NamedFile). file.place ≢ place)) (sym ready.files) apart

  no_manifest : manifest_place folder ≢ place
  no_manifest same = is_file.no_manifest (sym same)

  pub still_ready : IsReady folder now base view new.slots
  still_ready = record {
    texts = ready.texts;
    removals_file = ready.removals_file;
    laid = ready.laid;
    standing = ready.standing;
    settled = stays_settled (λ other. other ≡ place) folder ready.standing changes honest ready.settled no_manifest others;
    files = ready.files;
    back = ready.back;
  }

  -- and each stop leaves what was there
  pub leaves_now : LeavesOnly (IsArchiveAt folder now) old new
  leaves_now = narrowed ready.back (leaves_standing (λ other. other ≡ place) folder ready.standing changes honest ready.settled no_manifest others)

-- ---- the files of a manifest with one segment more

front_all : {X : Type 0} (P : X → Type 0) (xs ys : List X) → All P (xs ++ ys) → All P xs
front_all P [] ys all = All-nil P
front_all P (x ∷ xs) ys all = All-cons P x xs (All-head P x (xs ++ ys) all) (front_all P xs ys (All-tail P x (xs ++ ys) all))

one_more : (P : NamedFile → Type 0) (folder : List ℕ) (stop : List (List ℕ)) (segments : List Segment) (texts : List (List ℕ)) (lists : List (List Document)) (rest : List NamedFile) (segment : Segment) (text : List ℕ)
    → AreSegmentsOf stop segments texts lists → All P (segment_files folder segments texts ++ rest) → P (record { place = segment_place folder segment.file; bytes = text })
    → All P (segment_files folder (segments ++ segment ∷ []) (texts ++ text ∷ []) ++ rest)
one_more P folder stop [] [] [] rest segment text are all is = All-cons P (record { place = segment_place folder segment.file; bytes = text }) rest is all
one_more P folder stop [] [] (list ∷ lists) rest segment text are all is = absurd are
one_more P folder stop [] (first ∷ texts) lists rest segment text are all is = absurd are
one_more P folder stop (one ∷ segments) [] lists rest segment text are all is = absurd are
one_more P folder stop (one ∷ segments) (first ∷ texts) [] rest segment text are all is = absurd are
one_more P folder stop (one ∷ segments) (first ∷ texts) (list ∷ lists) rest segment text are all is =
    let file : NamedFile = record { place = segment_place folder one.file; bytes = first } in
    let behind = segment_files folder segments texts ++ rest in
    All-cons P file (segment_files folder (segments ++ segment ∷ []) (texts ++ text ∷ []) ++ rest) (All-head P file behind all)
    (one_more P folder stop segments texts lists rest segment text are.1 (All-tail P file behind all) is)

-- ---- commits

pub no_lock : (folder : List ℕ) → manifest_place folder ≢ lock_place folder
no_lock folder same = let first : 109 ≡ 108 = ap (λ (place : Place). get_or place.name 0 0) same in absurd (omega (arith, first))

-- What is there once a layout was published, and what is there at each moment.
module _ {folder : List ℕ} {after : Archive} {later : ManifestView} {texts : List (List ℕ)} {removals_file : Option (List ℕ)} (laid : IsLaidOut after later texts removals_file) where
  pub there_after : (left : Slots) → Stands folder (Some (standing_of folder later texts removals_file)) left → IsArchiveAt folder (Some after) left
  there_after left stands = record { view = later; texts = texts; removals_file = removals_file; laid = laid; stands = stands }

  pub leaves_after : (slots : Slots) → IsSettled folder (Some (standing_of folder later texts removals_file)) slots → LeavesAmong folder (Some after ∷ []) slots
  leaves_after slots settled left stops =
      let kept = settled_leaves folder (Some (standing_of folder later texts removals_file)) slots settled left stops in
      (Some after, (0, omega arith, refl), there_after left (subst (λ (standing : Option Standing). Stands folder standing left) kept.1 kept.2))

-- the files of the manifest with one segment more are on the disk
pub added_files : {folder : List ℕ} {now : Option Archive} {base : Archive} {view : ManifestView} {slots : Slots} (ready : IsReady folder now base view slots) (segment : Segment) (text : List ℕ)
    → (slots (segment_place folder segment.file)).now ≡ Kept text → AreKept (standing_of folder (with_segment view segment) (ready.texts ++ text ∷ []) ready.removals_file).files slots
added_files {folder = folder} {view = view} {slots} ready segment text there =
    let P : NamedFile → Type 0 = λ file. (slots file.place).now ≡ Kept file.bytes in
    one_more P folder _ view.segments ready.texts ready.laid.lists (removals_files folder view.removals ready.removals_file) segment text ready.laid.segments
    (subst (All P) ready.files (kept_now ready.settled)) there

-- nothing but the manifest changes if removals are published
pub removed_files : {folder : List ℕ} {now : Option Archive} {base : Archive} {view : ManifestView} {slots : Slots} (ready : IsReady folder now base view slots) (line : RemovalsLine) (text : List ℕ)
    → (slots (removals_place folder line.file)).now ≡ Kept text → AreKept (standing_of folder (with_removals view line) ready.texts (Some text)).files slots
removed_files {folder = folder} {view = view} {slots} ready line text there =
    let P : NamedFile → Type 0 = λ file. (slots file.place).now ≡ Kept file.bytes in
    let file : NamedFile = record { place = removals_place folder line.file; bytes = text } in
    All-append P (segment_files folder view.segments ready.texts) (file ∷ [])
    (front_all P (segment_files folder view.segments ready.texts) (removals_files folder view.removals ready.removals_file) (subst (All P) ready.files (kept_now ready.settled)))
    (All-cons P file [] there (All-nil P))

-- ---- the commits of the calls

pub commit_added : {folder : List ℕ} {now : Option Archive} {base : Archive} {view : ManifestView} {slots : Slots} (segment : Segment) (count : ℕ) (documents : List Document) → IsReady folder now base view slots → view.next + 1 < 2 ^ 64
    → IsNewSegment view.next count segment → IsWritten base.stop segment documents (slots (segment_place folder view.next)).now
    → IsCommit folder now (with_documents base documents) (segment_place folder view.next) (manifest_text (with_segment view segment)) slots
commit_added {folder = folder} {now} {base} {view} {slots} segment count documents ready room new written = record {
  standing = ready.standing;
  names = subst (AreFileNames folder) (sym ready.files) (file_names folder view ready.texts ready.removals_file);
  settled = ready.settled;
  back = ready.back;
  is_file = segment_is_file folder view.next;
  apart = subst (All (λ (file : NamedFile). file.place ≢ segment_place folder view.next)) (sym ready.files) (no_next_segment folder view ready.texts ready.removals_file ready.laid.lawful);
  view = with_segment view segment;
  texts = ready.texts ++ written.text ∷ [];
  removals_file = ready.removals_file;
  spelled = refl;
  laid = laid_added base view ready.texts ready.removals_file segment written.text documents ready.laid room new.numbered new.fit written.of_documents;
  kept = added_files ready segment written.text (subst (λ (file : ℕ). (slots (segment_place folder file)).now ≡ Kept written.text) (sym new.numbered) written.kept);
}

-- what is found is ready
abbrev pub ready_found : {folder : List ℕ} {archive : Archive} {view : ManifestView} {slots : Slots} → IsFoundIn folder archive view slots → IsReady folder (Some archive) archive view slots
ready_found {folder = folder} {archive} {view} found = record {
  texts = found.texts;
  removals_file = found.removals_file;
  laid = laid found.laid;
  standing = Some (standing_of folder view found.texts found.removals_file);
  settled = found.settled;
  files = refl;
  back = λ left stands. record { view = view; texts = found.texts; removals_file = found.removals_file; laid = found.laid; stands = stands };
}

-- and a folder without a manifest for a new archive
pub ready_new : {folder : List ℕ} (stop : List (List ℕ)) {slots : Slots} → IsSettled folder None slots → IsReady folder None (archive_or None stop) (record { next = 1; segments = []; removals = None }) slots
ready_new stop settled = record {
  texts = [];
  removals_file = None;
  laid = record {
    lawful = record { bound = lit< tt; segments = no_segments 1; removals = tt };
    lists = [];
    segments = tt;
    documents = refl;
    removals = refl;
  };
  standing = None;
  settled = settled;
  files = refl;
  back = λ left stands. stands.manifest;
}

pub commit_removed : {folder : List ℕ} {archive : Archive} {view : ManifestView} {slots : Slots} (removals : List Removal) (line : RemovalsLine) (text : List ℕ) → IsFoundIn folder archive view slots → view.next + 1 < 2 ^ 64
    → line.file ≡ view.next → IsFitLine line → IsRemovalsFile (length archive.documents) removals line text → (slots (removals_place folder view.next)).now ≡ Kept text
    → IsCommit folder (Some archive) (with_removed archive removals) (removals_place folder view.next) (manifest_text (with_removals view line)) slots
commit_removed {folder = folder} {archive} {view} {slots} removals line text found room numbered fit of there =
    let ready = ready_found found in
    record {
      standing = ready.standing;
      names = file_names folder view found.texts found.removals_file;
      settled = ready.settled;
      back = ready.back;
      is_file = removals_is_file folder view.next;
      apart = no_next_removals folder view found.texts found.removals_file found.laid.lawful;
      view = with_removals view line;
      texts = found.texts;
      removals_file = Some text;
      spelled = refl;
      laid = laid_removed archive view found.texts found.removals_file removals line text found.laid (manifest_removed view line found.laid.lawful room numbered fit) of;
      kept = removed_files ready line text (subst (λ (file : ℕ). (slots (removals_place folder file)).now ≡ Kept text) (sym numbered) there);
    }

-- what a commit leaves
module _ {folder : List ℕ} {now : Option Archive} {after : Archive} {place : Place} {text : List ℕ} {slots : Slots} (commits : IsCommit folder now after place text slots) where
  -- the standing of the text that is published
  abbrev published : List ℕ → Option Standing
  published given = Some (record { manifest = given; files = (standing_of folder commits.view commits.texts commits.removals_file).files })

  same : (given : List ℕ) → given ≡ text → published given ≡ Some (standing_of folder commits.view commits.texts commits.removals_file)
  same given is = ap published (is ∙ commits.spelled)

  pub commit_leaves : {old mid : View} (given : List ℕ) → given ≡ text → LeavesOnly (IsEither folder commits.standing (published given)) old mid → LeavesOnly (IsLeftArchive folder (Some after ∷ now ∷ [])) old mid
  commit_leaves given is leaves = narrowed
      (λ left either. ⊎_elim
      (λ stands. record { archive = now; named = (1, omega arith, refl); there = commits.back left stands })
      (λ stands. record { archive = Some after; named = (0, omega arith, refl); there = there_after commits.laid left (subst (λ (standing : Option Standing). Stands folder standing left) (same given is) stands) }) either)
      leaves

  pub committed : (given : List ℕ) → given ≡ text → (left : Slots) → IsSettled folder (published given) left → LeavesAmong folder (Some after ∷ []) left
  committed given is left settled = leaves_after commits.laid left (subst (λ (standing : Option Standing). IsSettled folder standing left) (same given is) settled)

-- and one that removes the new file, since it did not take place
pub dropped_leaves : {folder : List ℕ} {now : Option Archive} {after : Archive} {place : Place} {text : List ℕ} {slots : Slots} {mid new : View} (commits : IsCommit folder now after place text slots)
    → IsSettled folder commits.standing mid.slots → ChangesOnly (λ other. other ≡ place) mid new → new.honest → LeavesOnly (IsLeftArchive folder (Some after ∷ now ∷ [])) mid new
dropped_leaves {folder = folder} {place = place} commits settled changes honest = narrowed
    (λ left stands. record { archive = _; named = (1, omega arith, refl); there = commits.back left stands })
    (leaves_standing (λ other. other ≡ place) folder commits.standing changes honest settled (λ same. commits.is_file.no_manifest (sym same)) commits.apart)

-- ---- what the calls leave while they write

is_now : (folder : List ℕ) (one now : Option Archive) (left : Slots) → IsArchiveAt folder now left → IsLeftArchive folder (one ∷ now ∷ []) left
is_now folder one now left there = record { archive = now; named = (1, omega arith, refl); there = there }

module _ {folder : List ℕ} {now : Option Archive} {base : Archive} {view : ManifestView} {old : View} (one : Option Archive) (ready : IsReady folder now base view old.slots) where
  -- nothing was done
  pub ready_leaves : ((left : Slots) → old.left_since old.moment left → Stops old.slots left) → LeavesOnly (IsLeftArchive folder (one ∷ now ∷ [])) old old
  ready_leaves only = begun old only
      (λ left stops. is_now folder one now left (let kept = settled_leaves folder ready.standing old.slots ready.settled left (stops_at old.slots left stops) in
      ready.back left (subst (λ (standing : Option Standing). Stands folder standing left) kept.1 kept.2)))

  -- a file was written that the manifest does not name
  pub written_leaves : {new : View} (at : Place) → IsFilePlace folder at → All (λ file. file.place ≢ at) (standing_of folder view ready.texts ready.removals_file).files → ChangesOnly (λ other. other ≡ at) old new → new.honest
      → LeavesOnly (IsLeftArchive folder (one ∷ now ∷ [])) old new
  written_leaves at is_file apart changes honest = narrowed (is_now folder one now) (leaves_now ready is_file apart changes honest)

-- the next segment
module _ {folder : List ℕ} {now : Option Archive} {base : Archive} {view : ManifestView} {old mid : View} (ready : IsReady folder now base view old.slots) (at : Place) (is : at ≡ segment_place folder view.next)
    (changes : ChangesOnly (λ other. other ≡ at) old mid) (honest : mid.honest) where
  is_file : IsFilePlace folder at
  is_file = subst (IsFilePlace folder) (sym is) (segment_is_file folder view.next)

  apart : All (λ file. file.place ≢ at) (standing_of folder view ready.texts ready.removals_file).files
  apart = subst (λ (place : Place). All (λ file. file.place ≢ place) (standing_of folder view ready.texts ready.removals_file).files) (sym is) (no_next_segment folder view ready.texts ready.removals_file ready.laid.lawful)

  pub segment_leaves : (one : Option Archive) → LeavesOnly (IsLeftArchive folder (one ∷ now ∷ [])) old mid
  segment_leaves one = written_leaves one ready at is_file apart changes honest

  pub segment_commits : (stop : List (List ℕ)) (segment : Segment) (count : ℕ) (documents : List Document) → base.stop ≡ stop → view.next + 1 < 2 ^ 64 → IsNewSegment view.next count segment → IsWritten stop segment documents (mid.slots at).now
      → IsCommit folder now (with_documents base documents) at (manifest_text (with_segment view segment)) mid.slots
  segment_commits stop segment count documents same room new written =
      subst (λ (place : Place). IsCommit folder now (with_documents base documents) place (manifest_text (with_segment view segment)) mid.slots) (sym is)
      (commit_added segment count documents (still_ready ready is_file apart changes honest) room new
      (subst (λ (place : Place). IsWritten base.stop segment documents (mid.slots place).now) is (subst (λ (terms : List (List ℕ)). IsWritten terms segment documents (mid.slots at).now) (sym same) written)))

-- the next removals
module _ {folder : List ℕ} {archive : Archive} {view : ManifestView} {old mid : View} (found : IsFoundIn folder archive view old.slots) (at : Place) (is : at ≡ removals_place folder view.next)
    (changes : ChangesOnly (λ other. other ≡ at) old mid) (honest : mid.honest) where
  removals_file_place : IsFilePlace folder at
  removals_file_place = subst (IsFilePlace folder) (sym is) (removals_is_file folder view.next)

  removals_apart_from : All (λ file. file.place ≢ at) (standing_of folder view found.texts found.removals_file).files
  removals_apart_from = subst (λ (place : Place). All (λ file. file.place ≢ place) (standing_of folder view found.texts found.removals_file).files) (sym is) (no_next_removals folder view found.texts found.removals_file found.laid.lawful)

  pub removals_leaves : (one : Option Archive) → LeavesOnly (IsLeftArchive folder (one ∷ Some archive ∷ [])) old mid
  removals_leaves one = written_leaves one (ready_found found) at removals_file_place removals_apart_from changes honest

  still_found : IsFoundIn folder archive view mid.slots
  still_found = record {
    texts = found.texts;
    removals_file = found.removals_file;
    laid = found.laid;
    settled = stays_settled (λ other. other ≡ at) folder (Some (standing_of folder view found.texts found.removals_file)) changes honest found.settled (λ same. removals_file_place.no_manifest (sym same)) removals_apart_from;
  }

  pub removals_commits : (removals : List Removal) (line : RemovalsLine) (text : List ℕ) → view.next + 1 < 2 ^ 64 → line.file ≡ view.next → IsFitLine line → IsRemovalsFile (length archive.documents) removals line text → (mid.slots at).now ≡ Kept text
      → IsCommit folder (Some archive) (with_removed archive removals) at (manifest_text (with_removals view line)) mid.slots
  removals_commits removals line text room numbered fit of kept =
      subst (λ (place : Place). IsCommit folder (Some archive) (with_removed archive removals) place (manifest_text (with_removals view line)) mid.slots) (sym is)
      (commit_removed removals line text still_found room numbered fit of (subst (λ (place : Place). (mid.slots place).now ≡ Kept text) is kept))
