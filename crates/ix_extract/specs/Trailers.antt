-- What the trailer of an index text says of its sections.
use Rattle.std.specs.Prelude.{◌≡◌, ◌+◌, ◌^◌, ◌<◌, ◌++◌, ℕ, List, length}
use Rattle.ix_index_text.specs.Sections.{Version}
use Rattle.ix_index_text.specs.IndexText.{end_mark, magic}
use Rattle.ix_file.specs.Frames.{FileSectionTexts, counts, eight, lengths}
use Rattle.ix_lookup.specs.Versions.{version_in}
use Rattle.ix_extract.specs.declared.trailer.Ends.{Ends}
use Rattle.ix_extract.specs.declared.trailer.Sizes.{Sizes}
use Rattle.ix_extract.specs.declared.trailer.Trailer.{Trailer}

-- the bytes before and behind the sections
abbrev pub ends_of : Version → FileSectionTexts → ℕ → ℕ → List ℕ
ends_of version texts documents terms = magic version ++ ((lengths texts ++ counts documents terms) ++ end_mark version)

-- The bytes are cut where the parts of both ends are: the marks have eight bytes each, the sizes 40 and the counts eight.
pub record AreEnds (bytes : List ℕ) (ends : Ends) : Type 0 where
  pub whole : bytes ≡ ends.mark.now ++ ((ends.sizes.now ++ ends.counts.now) ++ ends.end_mark.now)
  pub mark_length : length ends.mark.now ≡ 8
  pub sizes_length : length ends.sizes.now ≡ 40
  pub counts_length : length ends.counts.now ≡ 8

-- how many bytes the sections have together
abbrev pub sum_of : Sizes → ℕ
sum_of sizes = sizes.postings + sizes.stop + sizes.documents + sizes.dictionary + sizes.grams

-- the sizes as a trailer has them
abbrev pub sizes_bytes : Sizes → List ℕ
sizes_bytes sizes = eight sizes.postings ++ (eight sizes.stop ++ (eight sizes.documents ++ (eight sizes.dictionary ++ eight sizes.grams)))

-- Each of the sizes has eight bytes.
pub record AreSmall (sizes : Sizes) : Type 0 where
  pub postings : sizes.postings < 2 ^ 64
  pub stop : sizes.stop < 2 ^ 64
  pub documents : sizes.documents < 2 ^ 64
  pub dictionary : sizes.dictionary < 2 ^ 64
  pub grams : sizes.grams < 2 ^ 64

-- It says how long the sections are, and how many documents and terms there are.
pub record IsTrailerOf (version : Version) (texts : FileSectionTexts) (documents terms : ℕ) (trailer : Trailer) : Type 0 where
  pub of_version : version_in trailer.version ≡ version
  pub postings_size : trailer.postings ≡ length texts.postings
  pub stop_size : trailer.stop ≡ length texts.stop
  pub documents_size : trailer.documents ≡ length texts.documents
  pub dictionary_size : trailer.dictionary ≡ length texts.dictionary
  pub document_count : trailer.rows ≡ documents
  pub term_count : trailer.terms ≡ terms

-- The bytes up to the end of DICTIONARY have places.
abbrev pub HasRoom : Trailer → Type 0
HasRoom trailer = 8 + trailer.postings + trailer.stop + trailer.documents + trailer.dictionary < 2 ^ 64
