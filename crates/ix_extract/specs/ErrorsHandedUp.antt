-- What the errors of the crates below become.
use Rattle.std.specs.Prelude.{◌≡◌, ◌≢◌, ◌⊎◌}
use Rattle.ix_vbyte.specs.declared.errors.VbError.TheVariants.{Cut}
use Rattle.ix_files.specs.declared.file_error.FileError.{FileError}
use Rattle.ix_files.specs.declared.file_error.FileError.TheVariants as file
use Rattle.ix_file.specs.declared.open_error.OpenError.{OpenError}
use Rattle.ix_file.specs.declared.open_error.OpenError.TheVariants as opening
use Rattle.ix_file.specs.declared.open_error.Section.TheVariants.{Dictionary}
use Rattle.ix_lookup.specs.declared.lookup_error.LookupError.{LookupError}
use Rattle.ix_lookup.specs.declared.lookup_error.LookupError.TheVariants as lookup
use Rattle.ix_extract.specs.declared.extract_error.ExtractError.{ExtractError}
use Rattle.ix_extract.specs.declared.extract_error.ExtractError.TheVariants.{Memory, Read, Index}

-- `Memory` stays, and any other error of files is a read that failed.
abbrev pub IsOfFile : FileError → ExtractError → Type 0
IsOfFile given error = ((given ≡ file.Memory) × (error ≡ Memory)) ⊎ ((given ≢ file.Memory) × (error ≡ Read))

-- `Memory` stays, and any other error of the reader is told as it is.
abbrev pub IsOfOpen : OpenError → ExtractError → Type 0
IsOfOpen given error = ((given ≡ opening.Memory) × (error ≡ Memory)) ⊎ ((given ≢ opening.Memory) × (error ≡ Index given))

-- The error of the same name; a malformed dictionary is one that ends inside a number or a text.
abbrev pub error_of_lookup : LookupError → ExtractError
error_of_lookup lookup.Memory = Memory
error_of_lookup lookup.Read = Read
error_of_lookup lookup.Malformed = Index (opening.Number Dictionary Cut)
