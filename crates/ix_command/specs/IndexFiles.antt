-- Index files: what was opened, or why nothing was; and what `search` and `terms` make of the file that a line names.
use Rattle.std.specs.Prelude.{◌≡◌, ℕ, ◌⊎◌, Option}
use Rattle.std.specs.Io.KnownBytes.{Keeps}
use Rattle.clap.specs.Walk.{Text}
use Rattle.ix_text.specs.Collections.{Collection}
use Rattle.ix_file.specs.IndexText.{IsIndexText}
use Rattle.ix_file.specs.Opened.{IsIndexOf, Opened}
use Rattle.ix_file.specs.Sections.{Version}
use Rattle.ix_file.specs.declared.open_error.OpenError.TheVariants as open_error
use Rattle.ix_files.specs.Reading.{Holding}
use Rattle.ix_ask.specs.Listing.{IsPrinted, LeavesListing}
use Rattle.ix_command.specs.Refusals.{IsUnread, Tells}
use Rattle.ix_ask.specs.Searching.{IsSearched, LeavesSearch}
use Rattle.ix_ask.specs.declared.ask_error.AskError.{AskError}
use Rattle.ix_ask.specs.declared.refusal.EngineRefusal.TheVariants as engine
use Rattle.ix_command.specs.declared.refusal.Refusal.{Refusal}
use Rattle.ix_command.specs.declared.refusal.Refusal.TheVariants as refusal

-- The file of this path holds an index text of this version and collection.
pub record IsIndexHeld (holds : Holding) (path : Text) (version : Version) (collection : Collection) : Type 0 where
  pub text : Text
  pub held : holds path text
  pub spelled : IsIndexText version collection text

-- The file of this path holds an index text, and what was opened is the index of its collection.
pub record IsOpened (holds : Holding) (path : Text) (opened : Opened) : Type 0 where
  pub version : Version
  pub collection : Collection
  pub held : IsIndexHeld holds path version collection
  pub index : IsIndexOf opened version collection

-- The refusal tells why the text was not opened: memory ran out, unless it is an index text of no collection.
abbrev pub RefusesIndexText : Text → Refusal → Type 0
RefusesIndexText text (refusal.Engine (engine.Index error)) =
    (version : Version) (collection : Collection) → IsIndexText version collection text → error ≡ open_error.Memory
RefusesIndexText text _ = ⊥

-- The refusal tells why the file of this path gives no index: it cannot be read, or holds no index text.
abbrev pub RefusesIndex : Holding → Text → Refusal → Type 0
RefusesIndex holds path told = IsUnread path told ⊎ ((text : Text) × holds path text × RefusesIndexText text told)

-- The answer to the query, in the collection of the index file, went out whole, with so many names.
pub record IsSearchedFromFile (holds : Holding) (path query : Text) (old new : Option Text) (count : ℕ) : Type 0 where
  pub version : Version
  pub collection : Collection
  pub held : IsIndexHeld holds path version collection
  pub searched : IsSearched collection query old new count

-- The question to this collection was refused, as the refusal tells, and leaves this of the standard output.
pub record IsSearchTold (collection : Collection) (query : Text) (old new : Option Text) (told : Refusal) : Type 0 where
  pub error : AskError
  pub tells : Tells error told
  pub leaves : LeavesSearch collection query old new error

-- Why `search` was refused, and what it leaves of the standard output: the file gives no index, or the question to its
-- collection is refused.
pub data IsSearchRefused (holds : Holding) (path query : Text) (old new : Option Text) : Refusal → Type 0 where
  no_index : {told : Refusal} → RefusesIndex holds path told → Keeps old new → IsSearchRefused holds path query old new told
  no_names : {told : Refusal} (version : Version) (collection : Collection) → IsIndexHeld holds path version collection → IsSearchTold collection query old new told → IsSearchRefused holds path query old new told

-- The lines of the terms that match the pattern, in the collection of the index file, went out whole, so many of them.
pub record IsPrintedFromFile (holds : Holding) (path pattern : Text) (old new : Option Text) (count : ℕ) : Type 0 where
  pub version : Version
  pub collection : Collection
  pub held : IsIndexHeld holds path version collection
  pub printed : IsPrinted collection pattern old new count

-- The listing of this collection was refused, as the refusal tells, and leaves this of the standard output.
pub record IsListingTold (collection : Collection) (pattern : Text) (old new : Option Text) (told : Refusal) : Type 0 where
  pub error : AskError
  pub tells : Tells error told
  pub leaves : LeavesListing collection pattern old new error

-- Why `terms` was refused, and what it leaves of the standard output: the file gives no index, or the listing of its
-- collection is refused.
pub data IsListingRefused (holds : Holding) (path pattern : Text) (old new : Option Text) : Refusal → Type 0 where
  no_listed_index : {told : Refusal} → RefusesIndex holds path told → Keeps old new → IsListingRefused holds path pattern old new told
  no_lines : {told : Refusal} (version : Version) (collection : Collection) → IsIndexHeld holds path version collection → IsListingTold collection pattern old new told → IsListingRefused holds path pattern old new told
