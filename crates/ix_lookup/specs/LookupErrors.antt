-- The errors of a scan.
use Rattle.std.specs.Prelude.{ℕ}
use Rattle.ix_files.specs.declared.file_error.FileError.{FileError}
use Rattle.ix_files.specs.declared.file_error.FileError.TheVariants as file_error
use Rattle.ix_lookup.specs.declared.lookup_error.LookupError.{LookupError}
use Rattle.ix_lookup.specs.declared.lookup_error.LookupError.TheVariants.{Memory, Read, Malformed}

-- the number by which an error is told, from 1, in the order of the list
abbrev pub lookup_error_number : LookupError → ℕ
lookup_error_number Memory = 1
lookup_error_number Read = 2
lookup_error_number Malformed = 3

-- what an error of the source is to a caller
abbrev pub lookup_error_of : FileError → LookupError
lookup_error_of file_error.Memory = Memory
lookup_error_of file_error.Failed = Read
lookup_error_of file_error.Exists = Read
lookup_error_of file_error.Locked = Read
