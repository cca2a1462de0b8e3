-- The names of an index.
use Rattle.std.specs.Prelude.{◌≡◌, ℕ, List, length}
use Rattle.ix_text.specs.Collections.{Collection}
use Rattle.ix_file.specs.IndexText.{IsIndexText}
use Rattle.ix_file.specs.Sections.{Version}
use Rattle.ix_ask.specs.NameLines.{AreAllNames}
use Rattle.ix_c.specs.Filling.{Fills}
use Rattle.ix_c.specs.Telling.{HasNoError}
use Rattle.ix_c.specs.declared.found.Found.{Found}

-- The bytes are the index text of a collection, the lines are the names of all its documents, in their order, and
-- `count` is how many.
pub record AreNamesIn (index lines : List ℕ) (count : ℕ) : Type 0 where
  pub version : Version
  pub collection : Collection
  pub spelled : IsIndexText version collection index
  pub names : AreAllNames collection.documents lines count

-- These lines went into the buffer, and how many bytes and names they are was told.
pub record AreNamed (index old new : List ℕ) (found : Found) : Type 0 where
  pub lines : List ℕ
  pub names : AreNamesIn index lines found.count
  pub size : found.size ≡ length lines
  pub filled : Fills lines old new
  pub no_error : HasNoError found
