-- Laws of scripts.
use Rattle.std.specs.Prelude.{◌≡◌, List}
use Rattle.ix_script.specs.ScriptFaults.{IsScriptFault}
use Rattle.ix_script.specs.Steps.{IsScript, Step, Text}
use Rattle.ix_script.specs.declared.script_error.ScriptError.{ScriptError}

-- a text has one list of steps
abbrev pub HasOneScript : Type 0
HasOneScript = (stop : List Text) (text : Text) (steps others : List Step) → IsScript stop text steps → IsScript stop text others → steps ≡ others

-- a text has one fault
abbrev pub HasOneScriptFault : Type 0
HasOneScriptFault = (stop : List Text) (text : Text) (fault other : ScriptError) → IsScriptFault stop text fault → IsScriptFault stop text other → fault ≡ other

-- a text with a fault has no steps
abbrev pub FaultsExcludeSteps : Type 0
FaultsExcludeSteps = (stop : List Text) (text : Text) (fault : ScriptError) (steps : List Step) → IsScriptFault stop text fault → ¬ (IsScript stop text steps)
