-- The numbers of a writer's errors.
use Rattle.std.specs.Prelude.{ℕ}
use Rattle.ix_index_text.specs.declared.put_error.PutError.{PutError}
use Rattle.ix_index_text.specs.declared.put_error.PutError.TheVariants.{Write, Memory, Failed}

-- the place of an error in the list, from 1
abbrev pub put_error_number : PutError → ℕ
put_error_number Write = 1
put_error_number Memory = 2
put_error_number Failed = 3
