-- The names of the sections of an index text, as they are printed.
use Rattle.std.specs.Prelude.{ℕ, List, codes}
use Rattle.ix_file.specs.declared.open_error.Section.{Section}
use Rattle.ix_file.specs.declared.open_error.Section.TheVariants.{Postings, Stop, Documents, Dictionary, Grams}

-- the name of a section, in capitals
abbrev pub section_name : Section → List ℕ
section_name Postings = codes "POSTINGS"
section_name Stop = codes "STOP"
section_name Documents = codes "DOCS"
section_name Dictionary = codes "DICTIONARY"
section_name Grams = codes "GRAMS"
