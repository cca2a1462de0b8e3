-- Index files that were saved.
use Rattle.clap.specs.Walk.{Text}
use Rattle.ix_text.specs.Collections.{Collection}
use Rattle.ix_file.specs.IndexText.{IsIndexText}
use Rattle.ix_file.specs.Sections.{FrontCoded}
use Rattle.ix_build.specs.AlikeFronts.{AreAlike}
use Rattle.ix_files.specs.Reading.{Holding}

-- The index text of version 2 of the collection was saved under this path.
pub record SavesIndex (saves : Holding) (path : Text) (collection : Collection) : Type 0 where
  pub text : Text
  pub of_collection : IsIndexText FrontCoded collection text
  pub saved : saves path text

-- The index text of version 2 of a collection was saved under this path that has the stop terms of this one, and as many
-- documents, of the same names and token counts.
pub record SavesAlike (saves : Holding) (path : Text) (collection : Collection) : Type 0 where
  pub whole : Collection
  pub alike : AreAlike whole collection
  pub saved : SavesIndex saves path whole
