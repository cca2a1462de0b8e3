-- The numbers of the errors of building by makers.
use Rattle.std.specs.Prelude.{ℕ}
use Rattle.ix_build.specs.declared.by_makers.ByError.{ByError}
use Rattle.ix_build.specs.declared.by_makers.ByError.TheVariants.{Thread, Make, Merge, Memory}

-- an error's place in the list of these errors, from 1
abbrev pub by_error_number : ByError → ℕ
by_error_number (Thread worker) = 1
by_error_number (Make place error) = 2
by_error_number (Merge error) = 3
by_error_number Memory = 4
