-- What stands in an index text before its lists and grams are looked at.
use Rattle.std.specs.Prelude.{◌≡◌, ℕ, ◌≤◌, List, length, All}
use Rattle.ix_text.specs.Parts.{GramEntry, Parts, Posting, terms_of}
use Rattle.ix_text.specs.PartsLaws.{AreLawful}
use Rattle.ix_text.specs.StopSets.{IsStopSet}
use Rattle.ix_file.specs.Frames.{FileSectionTexts}
use Rattle.ix_index_text.specs.Grams.{AreGramsOfTerms}
use Rattle.ix_index_text.specs.Listings.{listings_section}
use Rattle.ix_file.specs.ReadListings.{AreLaidOut, AreListings, listings_in, sizes_sum}
use Rattle.ix_file.specs.LongLists.{IsLongIn, place_count}
use Rattle.ix_file.specs.OpenedGrams.{IsGramRow, grams_in}
use Rattle.ix_file.specs.OpenedRows.{AreRows, IsNameRow, rows_in}
use Rattle.ix_file.specs.PlacedTerms.{terms_in}
use Rattle.ix_file.specs.ReadLists.{AreListsIn}
use Rattle.ix_index_text.specs.Sections.{Version, documents_section, grams_section, stop_section}
use Rattle.ix_file.specs.Spelled.{AreSectionsOf}
use Rattle.ix_file.specs.declared.open.catalog.Catalog.{Catalog}
use Rattle.ix_file.specs.declared.open.grams.GramRow.{GramRow}
use Rattle.ix_file.specs.declared.open.tables.LongList.{LongList}

-- The stop list, the documents and the terms that the sections spell, as many as the trailer says, whose lists are as long as POSTINGS.
pub record IsCatalogOf (version : Version) (texts : FileSectionTexts) (catalog : Catalog) (document_count term_count : ℕ) : Type 0 where
  pub stop_set : IsStopSet catalog.stop
  pub stop : texts.stop ≡ stop_section catalog.stop
  pub rows : AreRows (rows_in texts.documents catalog.rows.items)
  pub documents : texts.documents ≡ documents_section (rows_in texts.documents catalog.rows.items)
  pub rows_counted : length catalog.rows.items ≡ document_count
  pub names : All (IsNameRow texts.documents) catalog.rows.items
  pub listings : AreListings catalog.stop (listings_in catalog.terms)
  pub dictionary : texts.dictionary ≡ listings_section version (listings_in catalog.terms)
  pub terms_counted : length catalog.terms ≡ term_count
  pub sizes : sizes_sum (listings_in catalog.terms) ≡ length texts.postings
  pub laid_out : AreLaidOut catalog.terms

-- POSTINGS has the lists of the terms, and these are places at which the long ones may be entered.
pub record AreLongListsOf (texts : FileSectionTexts) (catalog : Catalog) (longs : List LongList) : Type 0 where
  pub lists : List (List Posting)
  pub listed : AreListsIn (rows_in texts.documents catalog.rows.items) texts.postings catalog.terms lists
  pub entered : All (IsLongIn texts.postings catalog.terms) longs
  pub few : place_count longs ≤ length texts.postings

-- GRAMS has the grams of the terms, where these rows say.
pub record AreGramRowsOf (texts : FileSectionTexts) (catalog : Catalog) (rows : List GramRow) : Type 0 where
  pub of_terms : AreGramsOfTerms (terms_in catalog.terms) (grams_in texts.grams rows)
  pub spelled : texts.grams ≡ grams_section (grams_in texts.grams rows)
  pub gaps : All (IsGramRow texts.grams) rows

-- No lawful parts with their grams spell the sections.
abbrev pub AreNoSections : Version → FileSectionTexts → ℕ → ℕ → Type 0
AreNoSections version texts document_count term_count =
    (parts : Parts) (grams : List GramEntry) → AreLawful parts → AreGramsOfTerms (terms_of parts.entries) grams → ¬ (AreSectionsOf version parts grams texts document_count term_count)
