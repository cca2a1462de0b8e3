-- How many entries an index text has room for.
use Rattle.std.specs.Prelude.{ℕ, ◌+◌, ◌*◌, ◌≤◌, List, length}
use Rattle.ix_text.specs.Collections.{Collection}
use Rattle.ix_index_text.specs.IndexText.{IsIndexText}
use Rattle.ix_file.specs.Frames.{FileSectionTexts}
use Rattle.ix_file.specs.LongLists.{place_count}
use Rattle.ix_file.specs.Opened.{IsIndexOf, Opened}
use Rattle.ix_file.specs.Tables.{AreTablesOf}
use Rattle.ix_file.specs.declared.open.tables.Tables.{Tables}
use Rattle.ix_index_text.specs.Sections.{Version}

-- Besides its marks and its trailer, a text has two bytes for each stop term and each document of its opened index,
-- seven for each term, in DICTIONARY and POSTINGS, and three for each gram.
abbrev pub HasBytesForEntries : Type 0
HasBytesForEntries =
    (opened : Opened) (version : Version) (collection : Collection) (bytes : List ℕ) → IsIndexOf opened version collection → IsIndexText version collection bytes
    → 64 + 2 * length opened.parts.stop + 2 * length opened.parts.rows + 7 * length opened.parts.entries + 3 * length opened.grams ≤ length bytes

-- The tables of an opened index keep places in long lists: POSTINGS has a byte for each such list and each of its places.
abbrev pub HasBytesForPlaces : Type 0
HasBytesForPlaces = (texts : FileSectionTexts) (tables : Tables) → AreTablesOf texts tables → place_count tables.longs.items ≤ length texts.postings
