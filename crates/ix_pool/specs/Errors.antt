-- The numbers of the errors.
use Rattle.std.specs.Prelude.{ℕ}
use Rattle.ix_pool.specs.declared.maker.MakeError.{MakeError}
use Rattle.ix_pool.specs.declared.maker.MakeError.TheVariants as make
use Rattle.ix_pool.specs.declared.pool.WorkError.{WorkError}
use Rattle.ix_pool.specs.declared.pool.WorkError.TheVariants as work

-- the number of a maker's error, from 1
abbrev pub make_error_number : MakeError → ℕ
make_error_number make.Refused = 1
make_error_number make.Memory = 2

-- the number of an error of the whole work, from 1
abbrev pub work_error_number : WorkError → ℕ
work_error_number (work.Thread worker) = 1
work_error_number (work.Make place error) = 2
work_error_number work.Memory = 3
