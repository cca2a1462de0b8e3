-- What holds an index text together: its marks, and a trailer with the lengths of the sections and two counts.
use Rattle.std.specs.Prelude.{◌≡◌, ℕ, List, ◌++◌, length}
use Rattle.std.specs.Int.{to_le_bytes, w32, w64}
use Rattle.ix_index_text.specs.IndexText.{magic, end_mark}
use Rattle.ix_index_text.specs.Sections.{Version, Plain, FrontCoded}
use Rattle.ix_file.specs.declared.open.frame.FileSections.{FileSections}
use Rattle.ix_file.specs.declared.open.frame.Version.{Version as FileVersion}
use Rattle.ix_file.specs.declared.open.frame.Version.TheVariants as file

-- the bytes of the five sections
pub record FileSectionTexts : Type 0 where
  pub postings : List ℕ
  pub stop : List ℕ
  pub documents : List ℕ
  pub dictionary : List ℕ
  pub grams : List ℕ

-- the sections, one behind another
abbrev pub joined_sections : FileSectionTexts → List ℕ
joined_sections texts = texts.postings ++ (texts.stop ++ (texts.documents ++ (texts.dictionary ++ texts.grams)))

-- a length, in eight bytes, the lowest first
unfoldable pub eight : ℕ → List ℕ
eight n = to_le_bytes w64 n

-- a count, in four
unfoldable pub four : ℕ → List ℕ
four n = to_le_bytes w32 n

-- the lengths of the sections
abbrev pub lengths : FileSectionTexts → List ℕ
lengths texts =
    eight (length texts.postings) ++ (eight (length texts.stop) ++ (eight (length texts.documents) ++ (eight (length texts.dictionary) ++ eight (length texts.grams))))

-- the number of documents and of terms
abbrev pub counts : ℕ → ℕ → List ℕ
counts documents terms = four documents ++ four terms

-- the whole text
unfoldable pub framed : Version → FileSectionTexts → ℕ → ℕ → List ℕ
framed version texts documents terms = magic version ++ (joined_sections texts ++ ((lengths texts ++ counts documents terms) ++ end_mark version))

-- the sections that stand there
abbrev pub texts_in : FileSections → FileSectionTexts
texts_in sections = record {
  postings = sections.postings.now;
  stop = sections.stop.now;
  documents = sections.documents.now;
  dictionary = sections.dictionary.now;
  grams = sections.grams.now;
}

-- the version that a value of the program stands for
abbrev pub version_in : FileVersion → Version
version_in file.Plain = Plain
version_in file.FrontCoded = FrontCoded

-- bytes that are cut where the parts of a frame end: the marks have eight bytes each, the lengths 40 and the counts eight
pub record IsCutInto (bytes mark body sizes numbers final : List ℕ) : Type 0 where
  pub whole : bytes ≡ mark ++ (body ++ ((sizes ++ numbers) ++ final))
  pub mark_length : length mark ≡ 8
  pub sizes_length : length sizes ≡ 40
  pub numbers_length : length numbers ≡ 8
  pub final_length : length final ≡ 8
