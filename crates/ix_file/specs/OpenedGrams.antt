-- The grams of an opened index, where they stand in GRAMS.
use Rattle.std.specs.Prelude.{◌≡◌, ◌≢◌, ℕ, ◌+◌, ◌<◌, ◌≤◌, List, ◌++◌, ◌^◌, ◌-◌, map, length, flat_map, slice_range, slice_get, Some, Option, IfSome, IfNone, All}
use Rattle.ix_text.specs.ByteOrder.{IsAscending}
use Rattle.ix_text.specs.Parts.{GramEntry}
use Rattle.ix_text.specs.Terms.{IsTerm}
use Rattle.ix_vbyte.specs.Code.{code_of}
use Rattle.ix_vbyte.specs.Gaps.{Ascends, gaps_of}
use Rattle.ix_vbyte.specs.Postings.{codes_of}
use Rattle.ix_vbyte.specs.Texts.{counted}
use Rattle.ix_vbyte.specs.Walking.{ArePositionsFrom, positions_told}
use Rattle.ix_index_text.specs.Grams.{IsGramOfTerm}
use Rattle.ix_index_text.specs.Sections.{grams_section}
use Rattle.ix_file.specs.declared.open.grams.GramRow.{GramRow}

-- the entry that a row of the table stands for, in this section
abbrev pub gram_in : List ℕ → GramRow → GramEntry
gram_in section row = record {
  gram = slice_range section row.start (row.start + row.size);
  numbers = positions_told 0 (slice_range section row.numbers (row.numbers + row.numbers_size));
}

-- the entries of a table
abbrev pub grams_in : List ℕ → List GramRow → List GramEntry
grams_in section rows = map (gram_in section) rows

-- the row lies in the section, and where it says there stand the gaps of as many numbers as it says
pub record IsGramRow (section : List ℕ) (row : GramRow) : Type 0 where
  pub gram : row.start + row.size ≤ length section
  pub numbers : row.numbers + row.numbers_size ≤ length section
  pub coded : ArePositionsFrom 0 row.count (slice_range section row.numbers (row.numbers + row.numbers_size))

-- the place found is that of an entry with the gram, and where none is found there is no such entry
pub record FindsGram (grams : List GramEntry) (gram : List ℕ) (found : Option ℕ) : Type 0 where
  pub there : IfSome found (λ place. (entry : GramEntry) × (slice_get grams place ≡ Some entry) × (entry.gram ≡ gram))
  pub nowhere : IfNone found (All (λ entry. entry.gram ≢ gram) grams)

-- the gaps of numbers, one behind another
abbrev pub gap_codes : List ℕ → List ℕ
gap_codes numbers = codes_of (gaps_of numbers)

-- what GRAMS has of a gram
abbrev pub gram_bytes : GramEntry → List ℕ
gram_bytes entry = counted entry.gram ++ code_of (length entry.numbers) ++ gap_codes entry.numbers

-- ascending numbers of terms, each of which has the gram
pub record AreNumbersOf (terms : List (List ℕ)) (gram : List ℕ) (numbers : List ℕ) : Type 0 where
  pub ascend : Ascends 0 (length terms) numbers
  pub right : All (IsGramOfTerm terms gram) numbers

-- a gram with some of the terms that have it
pub record IsRightEntry (terms : List (List ℕ)) (entry : GramEntry) : Type 0 where
  pub some : 0 < length entry.numbers
  pub numbers : AreNumbersOf terms entry.gram entry.numbers

-- ---- rows that were cut off, whose numbers may be any

-- the row lies in the section
pub record LiesIn (section : List ℕ) (row : GramRow) : Type 0 where
  pub gram : row.start + row.size ≤ length section
  pub numbers : row.numbers + row.numbers_size ≤ length section

-- what stands in GRAMS where the row says
abbrev pub cut_bytes : List ℕ → GramRow → List ℕ
cut_bytes section row =
    counted (slice_range section row.start (row.start + row.size)) ++ code_of row.count ++ slice_range section row.numbers (row.numbers + row.numbers_size)

-- a gram, which is some text, with ascending numbers
pub record IsListedGram (entry : GramEntry) : Type 0 where
  pub text : IsTerm entry.gram
  pub some : 0 < length entry.numbers
  pub ascend : Ascends 0 (2 ^ 32 - 1) entry.numbers

-- the row was cut off the front, and if an entry stands there the row is its row
pub record CutsEntry (section left : List ℕ) (row : GramRow) (rest : List ℕ) : Type 0 where
  pub bytes : left ≡ cut_bytes section row ++ rest
  pub lies : LiesIn section row
  pub only : (entry : GramEntry) (other : List ℕ) → IsListedGram entry → left ≡ gram_bytes entry ++ other → (entry ≡ gram_in section row) × (other ≡ rest) × IsGramRow section row

-- the section was cut into rows of ascending texts, and if it lists grams these are the rows of them
pub record AreCutRows (section : List ℕ) (rows : List GramRow) : Type 0 where
  pub bytes : section ≡ flat_map (cut_bytes section) rows
  pub ascending : IsAscending (map (λ row. (gram_in section row).gram) rows)
  pub lie : All (LiesIn section) rows
  pub only : (grams : List GramEntry) → All IsListedGram grams → section ≡ grams_section grams → (grams ≡ grams_in section rows) × All (IsGramRow section) rows

-- a row of a gram with some of the terms that have it
pub record IsRightRow (terms : List (List ℕ)) (section : List ℕ) (row : GramRow) : Type 0 where
  pub is : IsGramRow section row
  pub right : IsRightEntry terms (gram_in section row)
