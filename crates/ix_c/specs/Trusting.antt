-- What an index text that nobody has checked answers to a query.
use Rattle.std.specs.Prelude.{◌≡◌, ℕ, List, length}
use Rattle.ix_text.specs.Collections.{Collection, IsLawful}
use Rattle.ix_file.specs.IndexText.{IsIndexText}
use Rattle.ix_file.specs.Sections.{Version}
use Rattle.ix_file.specs.declared.open_error.OpenError.TheVariants as open_error
use Rattle.ix_ask.specs.Searching.{IsFound}
use Rattle.ix_ask.specs.declared.refusal.EngineRefusal.{EngineRefusal}
use Rattle.ix_ask.specs.declared.refusal.EngineRefusal.TheVariants as engine
use Rattle.ix_c.specs.Filling.{Fills}
use Rattle.ix_c.specs.Searching.{RefusesFinding}
use Rattle.ix_c.specs.Telling.{HasNoError}
use Rattle.ix_c.specs.declared.found.Found.{Found}

-- The lines are the names of exactly the documents that satisfy the query, and `count` is how many: of the collection of
-- which the bytes are the index text, if there is one, and always of some lawful collection.
pub record AreFoundTrusting (index query lines : List ℕ) (count : ℕ) : Type 0 where
  pub exact : (version : Version) (collection : Collection) → IsIndexText version collection index → IsFound collection query lines count
  pub some : (collection : Collection) × IsLawful collection × IsFound collection query lines count

-- These lines went into the buffer, and `found` has how many bytes and names they are.
pub record IsSearchedTrusting (index query old new : List ℕ) (found : Found) : Type 0 where
  pub lines : List ℕ
  pub names : AreFoundTrusting index query lines found.count
  pub size : found.size ≡ length lines
  pub filled : Fills lines old new
  pub no_error : HasNoError found

-- why nothing was found in the collection of an index text
abbrev pub RefusesFindingTrusting : Collection → List ℕ → EngineRefusal → Type 0
RefusesFindingTrusting collection query (engine.Index error) = error ≡ open_error.Memory
RefusesFindingTrusting collection query reason = RefusesFinding collection query reason

-- Why nothing was found, if the bytes are the index text of a collection.
abbrev pub RefusesTrusting : List ℕ → List ℕ → EngineRefusal → Type 0
RefusesTrusting index query reason =
    (version : Version) (collection : Collection) → IsIndexText version collection index → RefusesFindingTrusting collection query reason
