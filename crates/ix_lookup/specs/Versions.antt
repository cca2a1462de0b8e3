-- The version of the format that a value of the program is.
use Rattle.ix_index_text.specs.Sections.{Version, Plain, FrontCoded}
use Rattle.ix_lookup.specs.declared.version.Version.{Version as DictionaryVersion}
use Rattle.ix_lookup.specs.declared.version.Version.TheVariants as dictionary

-- the version of the format
abbrev pub version_in : DictionaryVersion → Version
version_in dictionary.Plain = Plain
version_in dictionary.FrontCoded = FrontCoded
