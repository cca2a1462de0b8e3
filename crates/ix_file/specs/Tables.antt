-- The tables of an opened index, and what they say with the sections that they were read from.
use Rattle.std.specs.Prelude.{ℕ, ◌+◌, ◌≤◌, List, map, length, All}
use Rattle.ix_text.specs.Parts.{DictionaryEntry, Parts, terms_of}
use Rattle.ix_text.specs.PartsLaws.{AreLawful}
use Rattle.ix_vbyte.specs.Walking.{IsCodedList, postings_told}
use Rattle.ix_file.specs.Frames.{FileSectionTexts, version_in}
use Rattle.ix_index_text.specs.Grams.{AreGramsOfTerms}
use Rattle.ix_file.specs.LongLists.{IsLongIn, place_count}
use Rattle.ix_file.specs.Opened.{Opened}
use Rattle.ix_file.specs.OpenedGrams.{IsGramRow, grams_in}
use Rattle.ix_file.specs.OpenedRows.{IsNameRow, rows_in}
use Rattle.ix_file.specs.ReadLists.{list_in}
use Rattle.ix_file.specs.PlacedTerms.{PlacedTerm}
use Rattle.ix_file.specs.declared.open.tables.Held.{Held}
use Rattle.ix_file.specs.declared.open.tables.Held.TheVariants.{Owned, Lent}
use Rattle.ix_file.specs.declared.open.tables.Tables.{Tables}

-- the term of a row
abbrev pub term_in : PlacedTerm → List ℕ
term_in row = row.term

-- the entry that a row stands for
abbrev pub entry_in : List ℕ → PlacedTerm → DictionaryEntry
entry_in section row = record { term = term_in row; postings = postings_told row.documents 0 (list_in section row) }

-- the entries of a table
abbrev pub entries_in : List ℕ → List PlacedTerm → List DictionaryEntry
entries_in section rows = map (entry_in section) rows

-- the parts that the tables tell
abbrev pub parts_in : FileSectionTexts → Tables → Parts
parts_in texts tables =
    record { stop = tables.stop; rows = rows_in texts.documents tables.rows.items; entries = entries_in texts.postings tables.terms }

-- the index that the tables make of the sections
abbrev pub opened_in : FileSectionTexts → Tables → Opened
opened_in texts tables = record { version = version_in tables.version; parts = parts_in texts tables; grams = grams_in texts.grams tables.grams.items }

-- the list of the row lies in POSTINGS, and is one of as many postings as the row says
pub record IsListRow (section : List ℕ) (row : PlacedTerm) : Type 0 where
  pub within : row.start + row.size ≤ length section
  pub coded : IsCodedList row.documents (list_in section row)

-- With these sections the tables tell lawful parts and their grams, and what they point to stands there.
pub record AreTablesOf (texts : FileSectionTexts) (tables : Tables) : Type 0 where
  pub lawful : AreLawful (parts_in texts tables)
  pub grams : AreGramsOfTerms (terms_of (entries_in texts.postings tables.terms)) (grams_in texts.grams tables.grams.items)
  pub names : All (IsNameRow texts.documents) tables.rows.items
  pub lists : All (IsListRow texts.postings) tables.terms
  pub longs : All (IsLongIn texts.postings tables.terms) tables.longs.items
  pub few_places : place_count tables.longs.items ≤ length texts.postings
  pub gaps : All (IsGramRow texts.grams) tables.grams.items

-- the tables that are held or lent
abbrev pub tables_in : Held → Tables
tables_in (Owned tables) = tables
tables_in (Lent tables) = tables.now
