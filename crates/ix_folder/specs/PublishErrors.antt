-- Why a manifest did not take the place of the one before.
use Rattle.std.specs.Prelude.{ℕ}
use Rattle.ix_files.specs.declared.file_error.FileError.{FileError}
use Rattle.ix_files.specs.declared.file_error.FileError.TheVariants as file_error
use Rattle.ix_folder.specs.declared.publish_error.PublishError.{PublishError}
use Rattle.ix_folder.specs.declared.publish_error.PublishError.TheVariants.{Memory, NotKept, Write}

-- the number of an error
abbrev pub publish_error_number : PublishError → ℕ
publish_error_number Memory = 1
publish_error_number Write = 2
publish_error_number NotKept = 3

-- The manifest before is in its place.
abbrev pub IsBefore : PublishError → Type 0
IsBefore Memory = Unit {0}
IsBefore Write = Unit {0}
IsBefore NotKept = ⊥

-- what a call of the files that failed is to one who publishes
abbrev pub told_of_files : FileError → PublishError
told_of_files file_error.Memory = Memory
told_of_files file_error.Failed = Write
told_of_files file_error.Exists = Write
told_of_files file_error.Locked = Write
