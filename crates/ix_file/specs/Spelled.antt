-- The sections that parts and grams spell.
use Rattle.std.specs.Prelude.{◌≡◌, ℕ, List, length}
use Rattle.ix_text.specs.Parts.{GramEntry, Parts}
use Rattle.ix_file.specs.Frames.{FileSectionTexts}
use Rattle.ix_index_text.specs.Sections.{Version, postings_section, stop_section, documents_section, dictionary_section, grams_section}

-- the five sections of parts and grams
abbrev pub sections_of : Version → Parts → List GramEntry → FileSectionTexts
sections_of version parts grams = record {
  postings = postings_section parts.entries;
  stop = stop_section parts.stop;
  documents = documents_section parts.rows;
  dictionary = dictionary_section version parts.entries;
  grams = grams_section grams;
}

-- The sections are those of the parts and the grams, and the counts are those of the parts.
pub record AreSectionsOf (version : Version) (parts : Parts) (grams : List GramEntry) (texts : FileSectionTexts) (documents terms : ℕ) : Type 0 where
  pub spelled : texts ≡ sections_of version parts grams
  pub document_count : documents ≡ length parts.rows
  pub term_count : terms ≡ length parts.entries
