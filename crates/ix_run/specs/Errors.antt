-- The numbers of the errors of this crate, from 1, and their names, as they are printed.
use Rattle.std.specs.Prelude.{ℕ, List, codes}
use Rattle.ix_run.specs.declared.errors.RunError.{RunError}
use Rattle.ix_run.specs.declared.errors.RunError.TheVariants.{TooLarge, Memory}

-- the number of a refusal to invert
abbrev pub run_error_number : RunError → ℕ
run_error_number TooLarge = 1
run_error_number Memory = 2

-- the name of a refusal to invert
abbrev pub run_error_name : RunError → List ℕ
run_error_name TooLarge = codes "TooLarge"
run_error_name Memory = codes "Memory"
