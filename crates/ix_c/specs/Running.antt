-- The run text of a collection text, and why there is none.
use Rattle.std.specs.Prelude.{◌≡◌, ℕ, ◌⊎◌, List, length}
use Rattle.ix_text.specs.StopText.{IsStopText}
use Rattle.ix_ask.specs.Inverting.{IsRunOfText, RefusesRunning as RefusesText}
use Rattle.ix_ask.specs.declared.refusal.EngineRefusal.{EngineRefusal}
use Rattle.ix_c.specs.Asking.{RefusesStop}
use Rattle.ix_c.specs.Filling.{Fills}
use Rattle.ix_c.specs.Telling.{HasNoError}
use Rattle.ix_c.specs.declared.found.Found.{Found}

-- The bytes are the run text of the collection of the collection text, without the terms of the stop text, its documents
-- counted from `first` on.
pub record IsRunUnder (collection stop : List ℕ) (first : ℕ) (text : List ℕ) : Type 0 where
  pub terms : List (List ℕ)
  pub read : IsStopText stop terms
  pub run : IsRunOfText collection terms first text

-- This text went into the buffer, and how many bytes it has was told.
pub record IsRun (collection stop : List ℕ) (first : ℕ) (old new : List ℕ) (found : Found) : Type 0 where
  pub text : List ℕ
  pub run : IsRunUnder collection stop first text
  pub size : found.size ≡ length text
  pub none : found.count ≡ 0
  pub filled : Fills text old new
  pub no_error : HasNoError found

-- Why there is no run text: the stop text is none, the bytes are no collection text, no run holds so much, or memory ran
-- out.
abbrev pub RefusesRunning : List ℕ → List ℕ → ℕ → EngineRefusal → Type 0
RefusesRunning collection stop first reason =
    RefusesStop stop reason ⊎ ((terms : List (List ℕ)) × IsStopText stop terms × RefusesText collection terms first reason)
