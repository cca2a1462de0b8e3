-- Where the sections stand in the bytes of an index text.
use Rattle.std.specs.Prelude.{◌≡◌, ℕ, ◌≤◌, List, length, slice_range}
use Rattle.ix_file.specs.Frames.{FileSectionTexts, framed}
use Rattle.ix_index_text.specs.Sections.{Version}
use Rattle.ix_file.specs.Tables.{AreTablesOf}
use Rattle.ix_file.specs.declared.open.tables.Tables.{Tables}
use Rattle.ix_file.specs.declared.volume.Places.{Places}

-- the sections: POSTINGS stands behind the eight bytes of the mark, and each other where the one before ends
abbrev pub texts_at : List ℕ → Places → FileSectionTexts
texts_at bytes places = record {
  postings = slice_range bytes 8 places.stop;
  stop = slice_range bytes places.stop places.documents;
  documents = slice_range bytes places.documents places.dictionary;
  dictionary = slice_range bytes places.dictionary places.grams;
  grams = slice_range bytes places.grams places.end;
}

-- the sections stand one behind another within the bytes
pub record ArePlacesIn (bytes : List ℕ) (places : Places) : Type 0 where
  pub stop : 8 ≤ places.stop
  pub documents : places.stop ≤ places.documents
  pub dictionary : places.documents ≤ places.dictionary
  pub grams : places.dictionary ≤ places.grams
  pub end : places.grams ≤ places.end
  pub within : places.end ≤ length bytes

-- the bytes are framed sections
pub record IsFramed (bytes : List ℕ) (texts : FileSectionTexts) : Type 0 where
  pub version : Version
  pub documents : ℕ
  pub terms : ℕ
  pub framed : bytes ≡ framed version texts documents terms

-- What an index holds together with its bytes.
pub record IsVolume (bytes : List ℕ) (at : Places) (held : Tables) : Type 0 where
  pub places : ArePlacesIn bytes at
  pub tables : AreTablesOf (texts_at bytes at) held
