-- Names in folders, as values of the program.
use Rattle.std.specs.String.{string_bytes}
use Rattle.ix_files.specs.Slots.{Place}
use Rattle.ix_files.specs.declared.location.Location.{Location}

-- the name in a folder
abbrev pub place_of : Location → Place
place_of location = record { folder = string_bytes location.folder; name = string_bytes location.name }
