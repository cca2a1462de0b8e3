-- The errors of scripts: their numbers, and their names, as they are printed.
use Rattle.std.specs.Prelude.{ℕ, List, ◌++◌, codes, decimal}
use Rattle.ix_query.specs.ErrorNames.{name_of}
use Rattle.ix_script.specs.declared.script_error.ScriptError.{ScriptError}
use Rattle.ix_script.specs.declared.script_error.ScriptError.TheVariants.{Line, Query, Memory}

-- an error's place in the list of these errors, from 1
abbrev pub script_error_number : ScriptError → ℕ
script_error_number (Line line) = 1
script_error_number (Query line error) = 2
script_error_number Memory = 3

-- the name of an error, with its line in brackets, and behind it why the query of that line is none
abbrev pub script_error_name : ScriptError → List ℕ
script_error_name (Line line) = codes "Line(" ++ (decimal line ++ codes ")")
script_error_name (Query line error) = codes "Query(" ++ (decimal line ++ (codes ", " ++ (name_of error ++ codes ")")))
script_error_name Memory = codes "Memory"
