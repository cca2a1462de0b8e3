-- Why a text is no script of `live`: its first line that is neither empty nor that of a step.
use Rattle.std.specs.Prelude.{◌≡◌, ◌≢◌, ℕ, ◌+◌, ◌^◌, ◌<◌, ◌⊎◌, List, [], ◌∷◌, ◌++◌, All, length, Err, codes, decimal}
use Rattle.ix_text.specs.StopText.{IsCutAtLineFeeds}
use Rattle.ix_query.specs.Machine.{query_of}
use Rattle.ix_script.specs.Steps.{IsLineOf, Step, Text}
use Rattle.ix_script.specs.declared.script_error.ScriptError.{ScriptError}
use Rattle.ix_script.specs.declared.script_error.ScriptError.TheVariants.{Line, Query, Memory}

-- a line that a script may have: it is empty, or that of a step
abbrev pub IsScriptLine : List Text → Text → Type 0
IsScriptLine stop line = (line ≡ []) ⊎ ((step : Step) × IsLineOf stop line step)

-- The line is not empty, and is none of those that ask for something, whatever query it asks.
pub record IsNoLine (line : Text) : Type 0 where
  pub filled : line ≢ []
  pub no_publish : line ≢ codes "publish"
  pub no_add : (path : Text) → path ≢ [] → line ≢ codes "add " ++ path
  pub no_ask : (query : Text) → query ≢ [] → line ≢ codes "ask " ++ query
  pub no_remove : (number : ℕ) → number < 2 ^ 28 → line ≢ codes "remove " ++ decimal number

-- the query of the line of this number is none, for this error
abbrev pub IsNoQuery : List Text → Text → ℕ → ScriptError → Type 0
IsNoQuery stop query number (Line at) = ⊥
IsNoQuery stop query number (Query at error) = (at ≡ number) × (query_of stop query ≡ Err error)
IsNoQuery stop query number Memory = ⊥

-- the line of this number has this fault
abbrev pub IsLineFault : List Text → Text → ℕ → ScriptError → Type 0
IsLineFault stop line number (Line at) = (at ≡ number) × IsNoLine line
IsLineFault stop line number (Query at error) =
    (query : Text) × (query ≢ []) × (line ≡ codes "ask " ++ query) × IsNoQuery stop query number (Query at error)
IsLineFault stop line number Memory = ⊥

-- The first line, counted from 1, that is none of a script has this fault.
pub record IsScriptFault (stop : List Text) (text : Text) (fault : ScriptError) : Type 0 where
  pub before : List Text
  pub line : Text
  pub after : List Text
  pub cut : IsCutAtLineFeeds text (before ++ line ∷ after)
  pub earlier : All (IsScriptLine stop) before
  pub fault_of_line : IsLineFault stop line (length before + 1) fault
