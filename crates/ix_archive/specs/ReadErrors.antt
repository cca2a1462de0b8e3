-- What an error of files is to a call that reads an archive.
use Rattle.ix_files.specs.declared.file_error.FileError.{FileError}
use Rattle.ix_files.specs.declared.file_error.FileError.TheVariants as file
use Rattle.ix_archive.specs.declared.read_error.ReadError.{ReadError}
use Rattle.ix_archive.specs.declared.read_error.ReadError.TheVariants.{Memory, Read}

-- Out of memory, or a read that failed.
abbrev pub error_of_file : FileError → ReadError
error_of_file file.Memory = Memory
error_of_file file.Failed = Read
error_of_file file.Exists = Read
error_of_file file.Locked = Read
