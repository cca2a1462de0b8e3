-- What stands behind the dictionary: GRAMS and the trailer.
use Rattle.std.specs.Prelude.{◌≡◌, ℕ, List, ◌++◌, Option, length}
use Rattle.std.specs.Int.{to_le_bytes, w32, w64}
use Rattle.std.specs.Io.KnownBytes.{Appends}
use Rattle.ix_text.specs.Collections.{Collection}
use Rattle.ix_text.specs.Parts.{GramEntry, terms_of}
use Rattle.ix_index_text.specs.Grams.{AreGramsOfTerms}
use Rattle.ix_index_text.specs.IndexText.{IsIndexText, end_mark, layout}
use Rattle.ix_index_text.specs.Sections.{FrontCoded, grams_section}
use Rattle.ix_index_text.specs.Told.{Told, entries_of, parts_of}
use Rattle.ix_index_text.specs.declared.sections.WriterSections.{WriterSections}
use Rattle.ix_index_text.specs.declared.writer.trailer.Trailer.{Trailer}

-- the lengths of the five sections, the numbers of rows and entries, and the mark of the end
unfoldable pub trailer_bytes : Trailer → List ℕ
trailer_bytes trailer =
    to_le_bytes w64 trailer.postings ++ to_le_bytes w64 trailer.stop ++ to_le_bytes w64 trailer.documents
    ++ to_le_bytes w64 trailer.dictionary ++ to_le_bytes w64 trailer.grams ++ to_le_bytes w32 trailer.rows
    ++ to_le_bytes w32 trailer.entries ++ end_mark FrontCoded

-- the trailer of what is kept, behind grams of so many bytes
abbrev pub trailer_of : WriterSections → ℕ → Trailer
trailer_of sections grams =
    record {
      postings = sections.postings;
      stop = length sections.stop.items;
      documents = length sections.documents.items;
      dictionary = length sections.dictionary.bytes.items;
      grams = grams;
      rows = sections.rows;
      entries = sections.dictionary.count;
    }

-- the bytes are GRAMS of the terms, and the trailer of what is kept
pub record IsEnding (sections : WriterSections) (terms : List (List ℕ)) (bytes : List ℕ) : Type 0 where
  pub grams : List GramEntry
  pub of_terms : AreGramsOfTerms terms grams
  pub spelled : bytes ≡ grams_section grams ++ trailer_bytes (trailer_of sections (length (grams_section grams)))

-- The whole index text of what was told went out since `before`.
pub record IsFinished (before now : Option (List ℕ)) (told : Told) : Type 0 where
  pub grams : List GramEntry
  pub of_terms : AreGramsOfTerms (terms_of (entries_of told)) grams
  pub written : Appends before now (layout FrontCoded (parts_of told) grams)

-- A whole index text of the collection went out since `before`.
pub record WritesIndexText (before now : Option (List ℕ)) (collection : Collection) : Type 0 where
  pub text : List ℕ
  pub of_collection : IsIndexText FrontCoded collection text
  pub written : Appends before now text
