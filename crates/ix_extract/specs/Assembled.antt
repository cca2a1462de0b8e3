-- The sections of an index text of version 1 that is put together.
use Rattle.std.specs.Prelude.{◌≡◌, List, [], ℕ, ◌+◌, ◌++◌, flat_map, length, string_bytes}
use Rattle.ix_text.specs.Parts.{GramEntry}
use Rattle.ix_vbyte.specs.Code.{code_of}
use Rattle.ix_vbyte.specs.Texts.{counted}
use Rattle.ix_index_text.specs.Grams.{AreGramsOfTerms}
use Rattle.ix_index_text.specs.Sections.{Plain, grams_section}
use Rattle.ix_file.specs.Frames.{FileSectionTexts, framed}
use Rattle.ix_lookup.specs.declared.found_term.FoundTerm.{FoundTerm}
use Rattle.ix_extract.specs.FoundTexts.{found_texts}
use Rattle.ix_extract.specs.Gathered.{list_at, lists_at, stop_at}
use Rattle.ix_extract.specs.declared.trailer.Trailer.{Trailer}

-- a term with its two counts, as a dictionary of version 1 has it
abbrev pub found_entry : FoundTerm → List ℕ
found_entry one = counted (string_bytes one.term) ++ (code_of one.documents ++ code_of one.size)

-- the terms, one behind another
unfoldable pub found_dictionary : List FoundTerm → List ℕ
found_dictionary found = flat_map found_entry found

-- The sections of these terms: the lists, STOP and DOCS where the bytes of an index text with this trailer have them, the
-- dictionary and these grams.
abbrev pub texts_of : List ℕ → Trailer → List FoundTerm → List GramEntry → FileSectionTexts
texts_of bytes trailer found grams = record {
  postings = lists_at bytes found;
  stop = stop_at bytes trailer;
  documents = list_at bytes (8 + trailer.postings + trailer.stop) trailer.documents;
  dictionary = found_dictionary found;
  grams = grams_section grams;
}

-- The text is that of these terms, of version 1.
pub record IsAssembled (bytes : List ℕ) (trailer : Trailer) (found : List FoundTerm) (text : List ℕ) : Type 0 where
  pub grams : List GramEntry
  pub of_terms : AreGramsOfTerms (found_texts found) grams
  pub spelled : text ≡ framed Plain (texts_of bytes trailer found grams) trailer.rows (length found)

-- STOP alone
abbrev pub stop_alone : List ℕ → FileSectionTexts
stop_alone stop = record { postings = []; stop = stop; documents = []; dictionary = []; grams = [] }
