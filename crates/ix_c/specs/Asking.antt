-- What a question to a collection text answers, and why it is refused.
use Rattle.std.specs.Prelude.{◌≡◌, ℕ, ◌⊎◌, List, length}
use Rattle.ix_text.specs.StopFaults.{IsStopFault}
use Rattle.ix_text.specs.StopText.{IsStopText}
use Rattle.ix_text.specs.declared.stop.StopError.TheVariants as stop_error
use Rattle.ix_ask.specs.Alone.{RefusesQuestion}
use Rattle.ix_ask.specs.Asking.{IsAnswer}
use Rattle.ix_ask.specs.declared.refusal.EngineRefusal.{EngineRefusal}
use Rattle.ix_ask.specs.declared.refusal.EngineRefusal.TheVariants as engine
use Rattle.ix_c.specs.Filling.{Fills}
use Rattle.ix_c.specs.Telling.{HasNoError}
use Rattle.ix_c.specs.declared.found.Found.{Found}

-- The lines are the names of exactly the documents of the collection text that satisfy the query, under the terms of the
-- stop text, and `count` is how many.
pub record IsAnsweredUnder (collection stop query lines : List ℕ) (count : ℕ) : Type 0 where
  pub terms : List (List ℕ)
  pub read : IsStopText stop terms
  pub answer : IsAnswer collection terms query lines count

-- These lines went into the buffer, and how many bytes and names they are was told.
pub record IsAnswered (collection stop query old new : List ℕ) (found : Found) : Type 0 where
  pub lines : List ℕ
  pub answer : IsAnsweredUnder collection stop query lines found.count
  pub size : found.size ≡ length lines
  pub filled : Fills lines old new
  pub no_error : HasNoError found

-- the text is no stop text, with this fault, or memory ran out
abbrev pub RefusesStop : List ℕ → EngineRefusal → Type 0
RefusesStop stop (engine.Stop error) = (error ≡ stop_error.Memory) ⊎ IsStopFault stop error
RefusesStop stop _ = ⊥

-- Why a question is refused: the stop text is none, or the question under its terms is refused.
abbrev pub RefusesAsking : List ℕ → List ℕ → List ℕ → EngineRefusal → Type 0
RefusesAsking collection stop query reason =
    RefusesStop stop reason ⊎ ((terms : List (List ℕ)) × IsStopText stop terms × RefusesQuestion collection terms query reason)
