-- The numbers of the errors that a stop text meets, and their names, as they are printed.
use Rattle.std.specs.Prelude.{ℕ, List, ◌++◌, codes, decimal}
use Rattle.ix_text.specs.declared.stop.StopError.{StopError}
use Rattle.ix_text.specs.declared.stop.StopError.TheVariants.{NotOneWord, LongWord, Memory, TooLarge}

-- an error's place in the list of the stop text's errors, from 1
abbrev pub stop_error_number : StopError → ℕ
stop_error_number (NotOneWord line) = 1
stop_error_number (LongWord line) = 2
stop_error_number Memory = 3
stop_error_number TooLarge = 4

-- the name of an error, with its line in brackets
abbrev pub stop_error_name : StopError → List ℕ
stop_error_name (NotOneWord line) = codes "NotOneWord(" ++ (decimal line ++ codes ")")
stop_error_name (LongWord line) = codes "LongWord(" ++ (decimal line ++ codes ")")
stop_error_name Memory = codes "Memory"
stop_error_name TooLarge = codes "TooLarge"
