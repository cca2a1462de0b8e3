-- The index text of a collection: magic, five sections, and a trailer that says how long they are.
use Rattle.std.specs.Prelude.{◌≡◌, ℕ, List, ◌++◌, length, codes}
use Rattle.std.specs.Int.{to_le_bytes, w32, w64}
use Rattle.ix_text.specs.Collections.{Collection, IsLawful}
use Rattle.ix_text.specs.Parts.{Parts, GramEntry, ArePartsOf, AreGramsOf}
use Rattle.ix_index_text.specs.Sections.{Version, Plain, FrontCoded, postings_section, stop_section, documents_section, dictionary_section, grams_section}

-- the eight bytes at the front
unfoldable pub magic : Version → List ℕ
magic Plain = codes "PIIX0001"
magic FrontCoded = codes "PIIX0002"

-- the eight bytes at the end
unfoldable pub end_mark : Version → List ℕ
end_mark Plain = codes "PIIXEND1"
end_mark FrontCoded = codes "PIIXEND2"

-- everything behind POSTINGS: the four other sections, and the trailer
unfoldable pub tail : Version → Parts → List GramEntry → List ℕ
tail version parts grams =
    let stop = stop_section parts.stop in
    let documents = documents_section parts.rows in
    let dictionary = dictionary_section version parts.entries in
    let gram_bytes = grams_section grams in
    stop ++ documents ++ dictionary ++ gram_bytes
    ++ to_le_bytes w64 (length (postings_section parts.entries))
    ++ to_le_bytes w64 (length stop)
    ++ to_le_bytes w64 (length documents)
    ++ to_le_bytes w64 (length dictionary)
    ++ to_le_bytes w64 (length gram_bytes)
    ++ to_le_bytes w32 (length parts.rows)
    ++ to_le_bytes w32 (length parts.entries)
    ++ end_mark version

-- the bytes of parts and grams
unfoldable pub layout : Version → Parts → List GramEntry → List ℕ
layout version parts grams = (magic version ++ postings_section parts.entries) ++ tail version parts grams

-- The bytes are the index text, of this version, of this collection.
pub record IsIndexText (version : Version) (collection : Collection) (bytes : List ℕ) : Type 0 where
  pub lawful : IsLawful collection
  pub parts : Parts
  pub grams : List GramEntry
  pub of_collection : ArePartsOf collection parts
  pub grams_of_collection : AreGramsOf collection grams
  pub spelled : bytes ≡ layout version parts grams
