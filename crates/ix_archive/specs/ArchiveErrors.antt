-- The errors of archives: their numbers, and their names as they are printed.
use Rattle.std.specs.Prelude.{ℕ, List, ◌++◌, codes, decimal}
use Rattle.ix_file.specs.OpenErrors.{open_error_name}
use Rattle.ix_archive.specs.declared.archive_error.ArchiveError.{ArchiveError}
use Rattle.ix_archive.specs.declared.archive_error.ArchiveError.TheVariants.{Locked, NoManifest, Manifest, Segment, Missing, Stop, Differs, Changed, NotKept, TooLarge}

-- an error's place in the list of these errors, from 1
abbrev pub archive_error_number : ArchiveError → ℕ
archive_error_number Locked = 1
archive_error_number NoManifest = 2
archive_error_number (Manifest line) = 3
archive_error_number (Segment file error) = 4
archive_error_number (Missing file) = 5
archive_error_number Stop = 6
archive_error_number (Differs file) = 7
archive_error_number Changed = 8
archive_error_number NotKept = 9
archive_error_number TooLarge = 10

-- the name of an error, with its line or its file in brackets
abbrev pub archive_error_name : ArchiveError → List ℕ
archive_error_name Locked = codes "Locked"
archive_error_name NoManifest = codes "NoManifest"
archive_error_name (Manifest line) = codes "Manifest(" ++ (decimal line ++ codes ")")
archive_error_name (Segment file error) = codes "Segment(" ++ (decimal file ++ (codes ", " ++ (open_error_name error ++ codes ")")))
archive_error_name (Missing file) = codes "Missing(" ++ (decimal file ++ codes ")")
archive_error_name Stop = codes "Stop"
archive_error_name (Differs file) = codes "Differs(" ++ (decimal file ++ codes ")")
archive_error_name Changed = codes "Changed"
archive_error_name NotKept = codes "NotKept"
archive_error_name TooLarge = codes "TooLarge"
