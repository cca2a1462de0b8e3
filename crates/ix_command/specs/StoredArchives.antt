-- Archives that lines name: what is found in them, what is added and removed, and what a stop leaves of them.
use Rattle.std.specs.Prelude.{◌≡◌, ℕ, ◌⊎◌, List, [], ◌∷◌, Bool, true, false, Contains, Option, Some, IsSomeAnd, IsUtf8, filter}
use Rattle.std.specs.Borrow.{Bor}
use Rattle.std.specs.Io.KnownBytes.{Appends, Keeps}
use Rattle.std.specs.Str.Lines.{lines}
use Rattle.clap.specs.Walk.{Text}
use Rattle.ix_text.specs.Collections.{NamedText}
use Rattle.ix_files.specs.Changes.{ChangesOnly}
use Rattle.ix_files.specs.Reading.{Holding}
use Rattle.ix_files.specs.Slots.{Nothing, Slots}
use Rattle.ix_files.specs.Views.{LeavesOnly, View}
use Rattle.ix_archive.specs.Archives.{Archive, IsArchiveFound}
use Rattle.ix_archive.specs.Findings.{RefusesFinding}
use Rattle.ix_archive.specs.Folders.{IsArchiveAt}
use Rattle.ix_archive.specs.Openings.{IsArchiveOf}
use Rattle.ix_archive.specs.declared.read_error.ReadError.{ReadError}
use Rattle.ix_archive.specs.declared.read_error.ReadError.TheVariants as reading
use Rattle.ix_archive_writer.specs.Changes.{IsNewlyGone, after_adding}
use Rattle.ix_archive_writer.specs.Commits.{HasWithout, IsLeftArchive, LeavesAmong, LeavesWithout}
use Rattle.ix_archive_writer.specs.declared.change_error.ChangeError.{ChangeError}
use Rattle.ix_archive_writer.specs.declared.change_error.ChangeError.TheVariants as changing
use Rattle.ix_line.specs.Lines.{texts_of}
use Rattle.ix_line.specs.declared.removed.Removed.{Removed}
use Rattle.ix_line.specs.declared.removed.Removed.TheVariants as removed
use Rattle.ix_command.specs.AskedFiles.{RefusesStop}
use Rattle.ix_command.specs.BuiltIndexes.{AreOfFiles, RefusesDocuments}
use Rattle.ix_command.specs.Refusals.{IsUnread, IsUnwritten}
use Rattle.ix_command.specs.declared.refusal.Refusal.{Refusal}
use Rattle.ix_command.specs.declared.refusal.Refusal.TheVariants as refusal
use Rattle.ix_ask.specs.declared.refusal.EngineRefusal.TheVariants as engine

-- What is known of the archives that a line names: which one is in the folder to which a path leads, that a path leads to no
-- file, that documents were added to one, and that so many documents of some names were removed.
pub record Storing : Type 1 where
  pub archives : Text → Archive → Type 0
  pub no_file : Text → Type 0
  pub added : Text → List Text → List NamedText → Type 0
  pub removed : Text → List Text → ℕ → Type 0

-- The documents are behind those of the archive in the folder to which the path leads, whatever stops; if there was none, it is a new
-- one with these stop terms.
abbrev pub added_in : View → View → Text → List Text → List NamedText → Type 0
added_in old new path stop documents = new.honest → (now : Option Archive) → IsArchiveAt (old.folder path) now old.slots
    → LeavesAmong (old.folder path) (Some (after_adding now stop documents) ∷ []) new.slots

-- So many documents of these names were in the archive in the folder to which the path leads, and it is without them, whatever stops.
abbrev pub removed_in : View → View → Text → List Text → ℕ → Type 0
removed_in old new path names count = new.honest → (archive : Archive) → IsArchiveAt (old.folder path) (Some archive) old.slots
    → IsNewlyGone names archive count × LeavesWithout (old.folder path) names archive new.slots

abbrev pub storing_of : View → View → Storing
storing_of old new = record {
  archives = IsArchiveOf old;
  no_file = λ path. old.honest → (old.slots (old.place path)).now ≡ Nothing;
  added = added_in old new;
  removed = removed_in old new;
}

-- ---- search

-- The path leads to no file, and the names that the query finds in the archive of its folder went out whole, so many of them.
pub record IsArchiveSearched (stored : Storing) (path query : Text) (old new : Option Text) (count : ℕ) : Type 0 where
  pub folder : stored.no_file path
  pub lines_found : Text
  pub found : (archive : Archive) → stored.archives path archive → IsArchiveFound archive query lines_found count
  pub written : Appends old new lines_found

-- the refusal tells the error of a call that reads the archive of this path
abbrev pub TellsRead : Text → ReadError → Refusal → Type 0
TellsRead path reading.Memory told = told ≡ refusal.Engine engine.Memory
TellsRead path reading.Read (refusal.Read named) = named.now ≡ path
TellsRead path reading.Read _ = ⊥
TellsRead path (reading.Query error) told = told ≡ refusal.Engine (engine.Query error)
TellsRead path (reading.Archive error) told = told ≡ refusal.Archive error

-- Why a query to the archive of this path finds nothing, and what that leaves of the standard output: it is no query, the archive
-- cannot be read, or is not as it must be; or a beginning of the names went out.
pub data IsArchiveUnsearched (stored : Storing) (path query : Text) (old new : Option Text) (told : Refusal) : Type 0 where
  no_answer_of : (error : ReadError) → stored.no_file path → TellsRead path error told
      → ((archive : Archive) → stored.archives path archive → RefusesFinding archive.stop query error) → Keeps old new → IsArchiveUnsearched stored path query old new told
  cut_short : (found : Text) (count : ℕ) → stored.no_file path → ((archive : Archive) → stored.archives path archive → IsArchiveFound archive query found count)
      → IsUnwritten found old new told → IsArchiveUnsearched stored path query old new told

-- ---- add

-- The documents of the collection file are behind those of the archive; a new one has the stop terms of the stop file.
pub record AddsFiles (holds : Holding) (stored : Storing) (stop_file : Option (Bor Text)) (archive collection : Text) : Type 0 where
  pub stop : List Text
  pub documents : List NamedText
  pub of_files : AreOfFiles holds stop_file collection stop documents
  pub added : stored.added archive stop documents

-- the refusal tells the error of a change of the archive of this path
abbrev pub TellsChange : Text → ChangeError → Refusal → Type 0
TellsChange path changing.Memory told = told ≡ refusal.Engine engine.Memory
TellsChange path changing.Read (refusal.Read named) = named.now ≡ path
TellsChange path changing.Read _ = ⊥
TellsChange path changing.Write (refusal.Write named) = named.now ≡ path
TellsChange path changing.Write _ = ⊥
TellsChange path (changing.Build error) told = told ≡ refusal.Engine (engine.Build error)
TellsChange path (changing.Archive error) told = told ≡ refusal.Archive error

-- Why the documents of a collection file are not added to the archive of this path: the stop file is rejected, the collection
-- file cannot be read or is rejected, or the archive is not changed.
pub data IsAddRefused (holds : Holding) (stop_file : Option (Bor Text)) (archive collection : Text) : Refusal → Type 0 where
  bad_stop_list : {told : Refusal} → IsSomeAnd stop_file (λ named. RefusesStop holds named.now told) → IsAddRefused holds stop_file archive collection told
  unread_documents : {told : Refusal} → IsUnread collection told → IsAddRefused holds stop_file archive collection told
  bad_documents : {told : Refusal} (text : Text) → holds collection text → RefusesDocuments text told → IsAddRefused holds stop_file archive collection told
  not_added : {told : Refusal} (error : ChangeError) → TellsChange archive error told → IsAddRefused holds stop_file archive collection told

-- ---- remove

-- a line that is not empty
abbrev pub is_some_name : Text → Bool
is_some_name [] = false
is_some_name (byte ∷ bytes) = true

-- The names are the lines of the text that are not empty: a line ends before LF or CR LF.
abbrev pub AreNamesIn : Text → List Text → Type 0
AreNamesIn text names = names ≡ filter is_some_name (lines text)

-- These are the names of a line of `remove`, or those in the file that it names.
abbrev pub AreNamed : Holding → Removed → List Text → Type 0
AreNamed holds (removed.Names names) texts = texts ≡ texts_of names.items
AreNamed holds (removed.List path) texts = (text : Text) × holds path.now text × AreNamesIn text texts

-- So many documents were removed of the archive of this path.
pub record RemovesSome (holds : Holding) (stored : Storing) (path : Text) (names : Removed) (count : ℕ) : Type 0 where
  pub texts : List Text
  pub named : AreNamed holds names texts
  pub removed : stored.removed path texts count

-- the refusal tells that the file of this path is not UTF-8, or that memory ran out
abbrev pub IsNoNameText : Text → Text → Refusal → Type 0
IsNoNameText path text (refusal.Engine engine.Memory) = Unit {0}
IsNoNameText path text (refusal.NotUtf8 named) = (named.now ≡ path) × ¬ (IsUtf8 text)
IsNoNameText path text _ = ⊥

-- the file of names that the line gives, if it gives one, cannot be read, or is not UTF-8
abbrev pub RefusesNames : Holding → Removed → Refusal → Type 0
RefusesNames holds (removed.Names names) told = ⊥
RefusesNames holds (removed.List path) told = IsUnread path.now told ⊎ ((text : Text) × holds path.now text × IsNoNameText path.now text told)

-- Why no documents are removed of the archive of this path: the file of names is rejected, or the archive is not changed.
pub data IsRemoveRefused (holds : Holding) (archive : Text) (names : Removed) : Refusal → Type 0 where
  bad_list : {told : Refusal} → RefusesNames holds names told → IsRemoveRefused holds archive names told
  not_removed : {told : Refusal} (error : ChangeError) → TellsChange archive error told → IsRemoveRefused holds archive names told

-- ---- what is changed, and what a stop leaves

-- Only names in the folder to which the path leads change, and a stop at any moment leaves at all others what it could leave before.
abbrev pub ChangesArchive : Text → View → View → Type 0
ChangesArchive path old new = ChangesOnly (λ place. place.folder ≡ old.folder path) old new

-- A stop left of the archive in the folder what it could leave before, or the archive with the documents of the collection file.
pub data IsLeftOrAdded (holds : Holding) (stop_file : Option (Bor Text)) (collection : Text) (folder : List ℕ) (among : List (Option Archive)) (now : Option Archive) (left : Slots) : Type 0 where
  not_yet : IsLeftArchive folder among left → IsLeftOrAdded holds stop_file collection folder among now left
  with_all : (stop : List Text) (documents : List NamedText) → AreOfFiles holds stop_file collection stop documents
      → IsArchiveAt folder (Some (after_adding now stop documents)) left → IsLeftOrAdded holds stop_file collection folder among now left

-- A stop at any moment leaves of the archive of this path what it could leave before, or the archive with the documents of the
-- collection file.
abbrev pub KeepsAdding : Holding → Option (Bor Text) → Text → Text → View → View → Type 0
KeepsAdding holds stop_file archive collection old new = (among : List (Option Archive)) (now : Option Archive) → Contains among now
    → LeavesAmong (old.folder archive) among old.slots → IsArchiveAt (old.folder archive) now old.slots
    → LeavesOnly (IsLeftOrAdded holds stop_file collection (old.folder archive) among now) old new

-- A stop left of the archive in the folder what it could leave before, or the archive without the documents of the names.
pub data IsLeftOrRemoved (holds : Holding) (names : Removed) (folder : List ℕ) (among : List (Option Archive)) (now : Archive) (left : Slots) : Type 0 where
  not_yet_gone : IsLeftArchive folder among left → IsLeftOrRemoved holds names folder among now left
  without_all : (texts : List Text) → AreNamed holds names texts → HasWithout folder texts now left → IsLeftOrRemoved holds names folder among now left

-- A stop at any moment leaves of the archive of this path what it could leave before, or the archive without the documents of the
-- names.
abbrev pub KeepsRemoving : Holding → Removed → Text → View → View → Type 0
KeepsRemoving holds names archive old new = (among : List (Option Archive)) (now : Archive) → Contains among (Some now)
    → LeavesAmong (old.folder archive) among old.slots → IsArchiveAt (old.folder archive) (Some now) old.slots
    → LeavesOnly (IsLeftOrRemoved holds names (old.folder archive) among now) old new
