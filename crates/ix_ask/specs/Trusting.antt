-- Why a question to an index text that nobody has checked has no answer.
use Rattle.std.specs.Prelude.{◌≡◌, ℕ, List, Option}
use Rattle.std.specs.Io.KnownBytes.{Keeps}
use Rattle.ix_text.specs.Collections.{Collection}
use Rattle.ix_file.specs.declared.open_error.OpenError.TheVariants as open_error
use Rattle.ix_extract.specs.declared.extract_error.ExtractError.{ExtractError}
use Rattle.ix_extract.specs.declared.extract_error.ExtractError.TheVariants as extracting
use Rattle.ix_ask.specs.Listing.{LeavesListing}
use Rattle.ix_ask.specs.Searching.{LeavesSearch}
use Rattle.ix_ask.specs.declared.ask_error.AskError.{AskError}
use Rattle.ix_ask.specs.declared.ask_error.AskError.TheVariants as asking
use Rattle.ix_ask.specs.declared.trust_error.TrustError.{TrustError}
use Rattle.ix_ask.specs.declared.trust_error.TrustError.TheVariants.{Ask, Read}

-- the error of an extraction, as that of a question
abbrev pub error_of_extract : ExtractError → TrustError
error_of_extract extracting.Memory = Ask asking.Memory
error_of_extract extracting.Read = Read
error_of_extract (extracting.Query error) = Ask (asking.Query error)
error_of_extract (extracting.Index error) = Ask (asking.Open error)

-- Why there is no answer, before anything was written: a read failed, memory ran out, or of an opened index there is none.
abbrev pub RefusesTrusting : (AskError → Type 0) → TrustError → Type 0
RefusesTrusting refuses Read = Unit {0}
RefusesTrusting refuses (Ask (asking.Open error)) = error ≡ open_error.Memory
RefusesTrusting refuses (Ask error) = refuses error

-- Why a search has no answer, and what went out: nothing, or what of an opened index goes out.
abbrev pub LeavesTrusting : Collection → List ℕ → Option (List ℕ) → Option (List ℕ) → TrustError → Type 0
LeavesTrusting collection query old new Read = Keeps old new
LeavesTrusting collection query old new (Ask (asking.Open error)) = (error ≡ open_error.Memory) × Keeps old new
LeavesTrusting collection query old new (Ask error) = LeavesSearch collection query old new error

-- Why a listing has no answer, and what went out.
abbrev pub LeavesTrustingListing : Collection → List ℕ → Option (List ℕ) → Option (List ℕ) → TrustError → Type 0
LeavesTrustingListing collection pattern old new Read = Keeps old new
LeavesTrustingListing collection pattern old new (Ask (asking.Open error)) = (error ≡ open_error.Memory) × Keeps old new
LeavesTrustingListing collection pattern old new (Ask error) = LeavesListing collection pattern old new error
