-- What an index text answers to a query and to a pattern, and why it is refused.
use Rattle.std.specs.Prelude.{◌≡◌, ℕ, List, length}
use Rattle.ix_text.specs.Collections.{Collection}
use Rattle.ix_file.specs.IndexText.{IsIndexText}
use Rattle.ix_file.specs.Sections.{Version}
use Rattle.ix_file.specs.declared.open_error.OpenError.{OpenError}
use Rattle.ix_file.specs.declared.open_error.OpenError.TheVariants as open_error
use Rattle.ix_query.specs.Machine.{query_of}
use Rattle.ix_query.specs.QueryErrors.{Fails}
use Rattle.ix_query.specs.QueryError.{QueryError}
use Rattle.ix_ask.specs.Listing.{IsListed as IsListedOf, IsNoPattern}
use Rattle.ix_ask.specs.Searching.{IsFound}
use Rattle.ix_ask.specs.declared.refusal.EngineRefusal.{EngineRefusal}
use Rattle.ix_ask.specs.declared.refusal.EngineRefusal.TheVariants as engine
use Rattle.ix_c.specs.Filling.{Fills}
use Rattle.ix_c.specs.Telling.{HasNoError}
use Rattle.ix_c.specs.declared.found.Found.{Found}

-- The bytes are the index text of a collection, the lines are the names of exactly its documents that satisfy the query,
-- read under its stop terms, and `count` is how many.
pub record AreFoundIn (index query lines : List ℕ) (count : ℕ) : Type 0 where
  pub version : Version
  pub collection : Collection
  pub spelled : IsIndexText version collection index
  pub found : IsFound collection query lines count

-- These lines went into the buffer, and how many bytes and names they are was told.
pub record IsSearched (index query old new : List ℕ) (found : Found) : Type 0 where
  pub lines : List ℕ
  pub names : AreFoundIn index query lines found.count
  pub size : found.size ≡ length lines
  pub filled : Fills lines old new
  pub no_error : HasNoError found

-- The bytes are the index text of a collection, the lines are those of exactly its terms that match the pattern, and
-- `count` is how many.
pub record AreListedIn (index pattern lines : List ℕ) (count : ℕ) : Type 0 where
  pub version : Version
  pub collection : Collection
  pub spelled : IsIndexText version collection index
  pub listed : IsListedOf collection pattern lines count

-- These lines went into the buffer, and how many bytes and terms they are was told.
pub record IsListed (index pattern old new : List ℕ) (found : Found) : Type 0 where
  pub lines : List ℕ
  pub terms : AreListedIn index pattern lines found.count
  pub size : found.size ≡ length lines
  pub filled : Fills lines old new
  pub no_error : HasNoError found

-- why the bytes were not opened: memory ran out, unless they are the index text of no collection
abbrev pub IsUnopened : List ℕ → OpenError → Type 0
IsUnopened index error = (version : Version) (collection : Collection) → IsIndexText version collection index → error ≡ open_error.Memory

-- The bytes are the index text of a collection under whose stop terms the query has this first fault; or memory ran out.
pub record IsUnread (index query : List ℕ) (error : QueryError) : Type 0 where
  pub version : Version
  pub collection : Collection
  pub spelled : IsIndexText version collection index
  pub fails : Fails error (query_of collection.stop query)

-- why an opened index of this collection finds nothing
abbrev pub RefusesFinding : Collection → List ℕ → EngineRefusal → Type 0
RefusesFinding collection query (engine.Query error) = Fails error (query_of collection.stop query)
RefusesFinding collection query engine.Memory = Unit {0}
RefusesFinding collection query _ = ⊥

-- why the terms of an opened index are not listed
abbrev pub RefusesMatching : List ℕ → EngineRefusal → Type 0
RefusesMatching pattern (engine.Pattern error) = IsNoPattern pattern error
RefusesMatching pattern engine.Memory = Unit {0}
RefusesMatching pattern _ = ⊥

-- Why nothing was found: the bytes were not opened, the text is no query, or memory ran out.
abbrev pub RefusesSearching : List ℕ → List ℕ → EngineRefusal → Type 0
RefusesSearching index query (engine.Index error) = IsUnopened index error
RefusesSearching index query (engine.Query error) = IsUnread index query error
RefusesSearching index query engine.Memory = Unit {0}
RefusesSearching index query _ = ⊥

-- Why no terms were listed: the bytes were not opened, the text is no pattern, or memory ran out.
abbrev pub RefusesListing : List ℕ → List ℕ → EngineRefusal → Type 0
RefusesListing index pattern (engine.Index error) = IsUnopened index error
RefusesListing index pattern (engine.Pattern error) = IsNoPattern pattern error
RefusesListing index pattern engine.Memory = Unit {0}
RefusesListing index pattern _ = ⊥
