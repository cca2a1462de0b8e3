-- The index text of a collection text, and why there is none.
use Rattle.std.specs.Prelude.{◌≡◌, ℕ, ◌⊎◌, List, length}
use Rattle.ix_text.specs.StopText.{IsStopText}
use Rattle.ix_ask.specs.Alone.{IsIndexOfText, RefusesIndexing as RefusesText}
use Rattle.ix_ask.specs.declared.refusal.EngineRefusal.{EngineRefusal}
use Rattle.ix_c.specs.Asking.{RefusesStop}
use Rattle.ix_c.specs.Filling.{Fills}
use Rattle.ix_c.specs.Telling.{HasNoError}
use Rattle.ix_c.specs.declared.found.Found.{Found}

-- The bytes are the index text, of version 2, of the collection of the collection text, without the terms of the stop
-- text.
pub record IsIndexUnder (collection stop text : List ℕ) : Type 0 where
  pub terms : List (List ℕ)
  pub read : IsStopText stop terms
  pub index : IsIndexOfText collection terms text

-- This text went into the buffer, and how many bytes it has was told.
pub record IsIndexed (collection stop old new : List ℕ) (found : Found) : Type 0 where
  pub text : List ℕ
  pub index : IsIndexUnder collection stop text
  pub size : found.size ≡ length text
  pub none : found.count ≡ 0
  pub filled : Fills text old new
  pub no_error : HasNoError found

-- Why there is no index text: the stop text is none, the bytes are no collection text, or memory ran out.
abbrev pub RefusesIndexing : List ℕ → List ℕ → EngineRefusal → Type 0
RefusesIndexing collection stop reason = RefusesStop stop reason ⊎ RefusesText collection reason
