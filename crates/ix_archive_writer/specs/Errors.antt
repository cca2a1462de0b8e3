-- What the errors of the crates below become.
use Rattle.ix_files.specs.declared.file_error.FileError.{FileError}
use Rattle.ix_files.specs.declared.file_error.FileError.TheVariants as file
use Rattle.ix_archive.specs.declared.archive_error.ArchiveError.TheVariants.{NotKept}
use Rattle.ix_folder.specs.declared.publish_error.PublishError.{PublishError}
use Rattle.ix_folder.specs.declared.publish_error.PublishError.TheVariants as publish
use Rattle.ix_archive_writer.specs.declared.change_error.ChangeError.{ChangeError}
use Rattle.ix_archive_writer.specs.declared.change_error.ChangeError.TheVariants.{Archive, Memory, Read, Write}

-- `Memory` stays, and any other error of a call that changes files is a write that failed.
abbrev pub error_of_write : FileError → ChangeError
error_of_write file.Memory = Memory
error_of_write error = Write

-- `Memory` stays, and any other error of a call that reads is a read that failed.
abbrev pub error_of_read : FileError → ChangeError
error_of_read file.Memory = Memory
error_of_read error = Read

-- the same error; after `NotKept` the archive is as it was, or has the change
abbrev pub error_of_publish : PublishError → ChangeError
error_of_publish publish.Memory = Memory
error_of_publish publish.Write = Write
error_of_publish publish.NotKept = Archive NotKept
