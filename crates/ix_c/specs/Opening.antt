-- What a handle stands for, and why none was opened.
use Rattle.std.specs.Prelude.{ℕ, List, Option, None, Some}
use Rattle.ix_text.specs.Collections.{Collection}
use Rattle.ix_file.specs.IndexText.{IsIndexText}
use Rattle.ix_file.specs.Opened.{IsIndexOf, Opened}
use Rattle.ix_file.specs.Sections.{Version}
use Rattle.ix_ask.specs.declared.refusal.EngineRefusal.{EngineRefusal}
use Rattle.ix_ask.specs.declared.refusal.EngineRefusal.TheVariants as engine
use Rattle.ix_c.specs.Searching.{IsUnopened}

-- The bytes are the index text of a collection, and the opened index is that of this collection.
pub record IsOpening (text : List ℕ) (opened : Opened) : Type 0 where
  pub version : Version
  pub collection : Collection
  pub index : IsIndexOf opened version collection
  pub spelled : IsIndexText version collection text

-- a handle that holds this stands for this index text
abbrev pub StandsFor : Option Opened → List ℕ → Type 0
StandsFor None text = ⊥
StandsFor (Some opened) text = IsOpening text opened

-- why no handle was opened: the bytes are the index text of no collection, or memory ran out
abbrev pub RefusesOpening : List ℕ → EngineRefusal → Type 0
RefusesOpening text (engine.Index error) = IsUnopened text error
RefusesOpening text engine.Memory = Unit {0}
RefusesOpening text _ = ⊥
