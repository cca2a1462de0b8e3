-- What is settled while an index text is told.
use Rattle.std.specs.Prelude.{List, ◌++◌}
use Rattle.ix_text.specs.Collections.{Collection, IsLawful}
use Rattle.ix_text.specs.Parts.{GramEntry, ArePartsOf, AreGramsOf}
use Rattle.ix_index_text.specs.IndexText.{IsIndexText, tail}
use Rattle.ix_index_text.specs.Sections.{FrontCoded}
use Rattle.ix_index_text.specs.Told.{Told, parts_of, settled_front}

-- the front that is settled by the parts of a lawful collection begins an index text of it
abbrev pub SettledFrontBeginsIndexText : Type 0
SettledFrontBeginsIndexText =
    (told : Told) (collection : Collection) (grams : List GramEntry) → IsLawful collection → ArePartsOf collection (parts_of told) → AreGramsOf collection grams
    → IsIndexText FrontCoded collection (settled_front told ++ tail FrontCoded (parts_of told) grams)
