-- What `search` and `terms` make of an index file that they trust: of which they read only what the question needs.
use Rattle.std.specs.Prelude.{◌≡◌, ◌≢◌, ℕ, Bool, true, false, Option}
use Rattle.std.specs.Io.KnownBytes.{Keeps}
use Rattle.clap.specs.Walk.{Text}
use Rattle.ix_text.specs.Collections.{Collection, IsLawful}
use Rattle.ix_index_text.specs.Sections.{Version}
use Rattle.ix_extract.specs.Projections.{HasIndexText}
use Rattle.ix_file.specs.declared.open_error.OpenError.TheVariants as open_error
use Rattle.ix_files.specs.Reading.{AreKnownOf, Holding}
use Rattle.ix_ask.specs.Listing.{IsPrinted, LeavesListing}
use Rattle.ix_ask.specs.Searching.{IsSearched, LeavesSearch}
use Rattle.ix_ask.specs.declared.ask_error.AskError.{AskError}
use Rattle.ix_ask.specs.declared.ask_error.AskError.TheVariants as asking
use Rattle.ix_command.specs.IndexFiles.{IsListingRefused, IsPrintedFromFile, IsSearchRefused, IsSearchedFromFile}
use Rattle.ix_command.specs.Refusals.{IsUnread, Tells}
use Rattle.ix_command.specs.declared.refusal.Refusal.{Refusal}

-- The answer is that of each collection of which the file's bytes, if they are known, are the index text, and of some lawful
-- collection.
pub record IsTrustedAnswer (Holds : Text → Type 0) (Answers : Collection → Type 0) : Type 0 where
  pub contents : Option Text
  pub known : AreKnownOf Holds contents
  pub exact : (version : Version) (collection : Collection) → HasIndexText contents version collection → Answers collection
  pub some : (collection : Collection) × IsLawful collection × Answers collection

-- What a question leaves that trusts the index file: the same as one that does not, or memory ran out in opening what was read.
abbrev pub LeavesTrusted : (AskError → Type 0) → Option Text → Option Text → AskError → Type 0
LeavesTrusted Leaves old new (asking.Open error) = (error ≡ open_error.Memory) × Keeps old new
LeavesTrusted Leaves old new error = Leaves error

-- The question was refused, as the refusal tells: it leaves what it leaves of each collection of which the file's bytes, if they
-- are known, are the index text, and of the standard output nothing else than it was, unless that cannot be written.
pub record IsTrustedTold (Holds : Text → Type 0) (Leaves : Collection → AskError → Type 0) (old new : Option Text) (told : Refusal) : Type 0 where
  pub error : AskError
  pub tells : Tells error told
  pub contents : Option Text
  pub known : AreKnownOf Holds contents
  pub exact : (version : Version) (collection : Collection) → HasIndexText contents version collection → LeavesTrusted (Leaves collection) old new error
  pub kept : error ≢ asking.Write → Keeps old new

-- Why a question that trusts the index file of this path was refused, and what it leaves of the standard output: the file cannot be
-- read, or the question is refused.
pub data IsTrustedRefused (holds : Holding) (path : Text) (Leaves : Collection → AskError → Type 0) (old new : Option Text) : Refusal → Type 0 where
  unread : {told : Refusal} → IsUnread path told → Keeps old new → IsTrustedRefused holds path Leaves old new told
  no_answer : {told : Refusal} → IsTrustedTold (holds path) Leaves old new told → IsTrustedRefused holds path Leaves old new told

-- ---- search

-- The answer to the query, of an index file that is trusted, went out whole, with so many names.
abbrev pub IsTrustedSearch : Holding → Text → Text → Option Text → Option Text → ℕ → Type 0
IsTrustedSearch holds path query old new count = IsTrustedAnswer (holds path) (λ collection. IsSearched collection query old new count)

-- Why `search` of an index file that is trusted was refused.
abbrev pub IsTrustedSearchRefused : Holding → Text → Text → Option Text → Option Text → Refusal → Type 0
IsTrustedSearchRefused holds path query old new told = IsTrustedRefused holds path (λ collection error. LeavesSearch collection query old new error) old new told

-- `search` was done, with or without trust in the index file.
abbrev pub IsSearchDone : Bool → Holding → Text → Text → Option Text → Option Text → ℕ → Type 0
IsSearchDone false holds path query old new count = IsSearchedFromFile holds path query old new count
IsSearchDone true holds path query old new count = IsTrustedSearch holds path query old new count

-- Why it was refused.
abbrev pub IsSearchUndone : Bool → Holding → Text → Text → Option Text → Option Text → Refusal → Type 0
IsSearchUndone false holds path query old new told = IsSearchRefused holds path query old new told
IsSearchUndone true holds path query old new told = IsTrustedSearchRefused holds path query old new told

-- ---- terms

-- The lines of the terms that match the pattern, of an index file that is trusted, went out whole, so many of them.
abbrev pub IsTrustedListing : Holding → Text → Text → Option Text → Option Text → ℕ → Type 0
IsTrustedListing holds path pattern old new count = IsTrustedAnswer (holds path) (λ collection. IsPrinted collection pattern old new count)

-- Why `terms` of an index file that is trusted was refused.
abbrev pub IsTrustedListingRefused : Holding → Text → Text → Option Text → Option Text → Refusal → Type 0
IsTrustedListingRefused holds path pattern old new told = IsTrustedRefused holds path (λ collection error. LeavesListing collection pattern old new error) old new told

-- `terms` was done, with or without trust in the index file.
abbrev pub IsListingDone : Bool → Holding → Text → Text → Option Text → Option Text → ℕ → Type 0
IsListingDone false holds path pattern old new count = IsPrintedFromFile holds path pattern old new count
IsListingDone true holds path pattern old new count = IsTrustedListing holds path pattern old new count

-- Why it was refused.
abbrev pub IsListingUndone : Bool → Holding → Text → Text → Option Text → Option Text → Refusal → Type 0
IsListingUndone false holds path pattern old new told = IsListingRefused holds path pattern old new told
IsListingUndone true holds path pattern old new told = IsTrustedListingRefused holds path pattern old new told
