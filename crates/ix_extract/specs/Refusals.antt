-- Why nothing was extracted, and what that says of the source and of the query.
use Rattle.std.specs.Prelude.{◌≡◌, ◌⊎◌, ℕ, List, Option}
use Rattle.ix_text.specs.Collections.{Collection, IsLawful}
use Rattle.ix_file.specs.declared.open_error.OpenError.{OpenError}
use Rattle.ix_query_text.specs.Machine.{query_of}
use Rattle.ix_query_text.specs.QueryErrors.{Fails}
use Rattle.ix_extract.specs.Projections.{IsOfNone}
use Rattle.ix_extract.specs.declared.extract_error.ExtractError.{ExtractError}
use Rattle.ix_extract.specs.declared.extract_error.ExtractError.TheVariants.{Memory, Read, Query, Index}

-- Out of memory, or a read of the source failed.
abbrev pub IsOutside : ExtractError → Type 0
IsOutside error = (error ≡ Memory) ⊎ (error ≡ Read)

-- One of these, or the bytes are the index text of no collection.
abbrev pub IsReadFault : Option (List ℕ) → ExtractError → Type 0
IsReadFault contents error = IsOutside error ⊎ (((fault : OpenError) × (error ≡ Index fault)) × IsOfNone contents)

-- Why a query is not extracted from the index text of a collection: the text is no query under the collection's own stop
-- list, with this first fault, or a read failed, or memory ran out.
abbrev pub IsQueryRefused : Collection → List ℕ → ExtractError → Type 0
IsQueryRefused collection query Memory = Unit {0}
IsQueryRefused collection query Read = Unit {0}
IsQueryRefused collection query (Query error) = Fails error (query_of collection.stop query)
IsQueryRefused collection query (Index error) = ⊥

-- A fault of the query is one under the stop list of some lawful collection.
abbrev pub IsFaultSomewhere : List ℕ → ExtractError → Type 0
IsFaultSomewhere query (Query error) = (collection : Collection) × IsLawful collection × Fails error (query_of collection.stop query)
IsFaultSomewhere query _ = Unit {0}
