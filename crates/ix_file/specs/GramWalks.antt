-- How far the numbers under the grams were read while the terms are walked.
use Rattle.std.specs.Prelude.{◌≡◌, ◌≢◌, ℕ, ◌+◌, ◌<◌, ◌≤◌, List, [], ◌∷◌, ◌++◌, Bool, Option, MatchBool, MatchOption, map, length, slice_get, slice_range, Some, All, Contains, IsUtf8}
use Rattle.std.specs.List.{AllZip, slice_index_or}
use Rattle.ix_text.specs.ByteOrder.{IsAscending}
use Rattle.ix_vbyte.specs.Gaps.{next_after}
use Rattle.ix_file.specs.GramSides.{AreChars, IsKeyOf, IsOn, gram_key}
use Rattle.ix_index_text.specs.GramTables.{text_of}
use Rattle.ix_index_text.specs.Grams.{IsGramOfTerm}
use Rattle.ix_file.specs.OpenedGrams.{AreNumbersOf, IsRightRow, gap_codes, gram_in}
use Rattle.ix_index_text.specs.TermWindows.{windows_of_term}
use Rattle.ix_file.specs.declared.open.gram_walk.Cursor.{Cursor}
use Rattle.ix_file.specs.declared.open.grams.GramRow.{GramRow}
use Rattle.ix_file.specs.declared.open.sides.Side.{Side}
use Rattle.ix_index_text.specs.declared.windows.Gram.{Gram}

-- ---- the rows that the terms ask for

-- a row of a gram with exactly the terms that have it
pub record IsRowOfTerms (terms : List (List ℕ)) (section : List ℕ) (row : GramRow) : Type 0 where
  pub right : IsRightRow terms section row
  pub all : (number : ℕ) → IsGramOfTerm terms (gram_in section row).gram number → Contains (gram_in section row).numbers number

-- some row is of the gram
pub record HasRow (section : List ℕ) (rows : List GramRow) (gram : List ℕ) : Type 0 where
  pub row : GramRow
  pub among : Contains rows row
  pub spelled : (gram_in section row).gram ≡ gram

-- each row has exactly the terms of its gram, and each gram of the terms that is on the side has a row
pub record AreRowsOn (side : Side) (terms : List (List ℕ)) (section : List ℕ) (rows : List GramRow) : Type 0 where
  pub each : All (IsRowOfTerms terms section) rows
  pub all : (term : List ℕ) (gram : Gram) (number : ℕ) → slice_get terms number ≡ Some term → Contains (windows_of_term term) gram → IsOn side (gram_key gram) → HasRow section rows (text_of gram)

-- the gram of the row, if it has a key, is on the side
abbrev pub IsRowOn : Side → List ℕ → GramRow → Type 0
IsRowOn side section row = (key : ℕ) → IsKeyOf (gram_in section row).gram key → IsOn side key

-- the row at the place has the key
pub record IsRowKey (section : List ℕ) (rows : List GramRow) (place key : ℕ) : Type 0 where
  pub row : GramRow
  pub at : slice_get rows place ≡ Some row
  pub keyed : IsKeyOf (gram_in section row).gram key

-- no text has the gram
abbrev pub IsNoGram : List ℕ → Type 0
IsNoGram gram = (terms : List (List ℕ)) (number : ℕ) → All IsUtf8 terms → ¬ (IsGramOfTerm terms gram number)

-- ---- the walk

-- what stands where the gaps of a row do
abbrev pub gap_bytes : List ℕ → GramRow → List ℕ
gap_bytes section row = slice_range section row.numbers (row.numbers + row.numbers_size)

-- Of the row all numbers of its gram that are below this one were read, and this one if its key is that of a gram seen. The cursor is behind them.
pub record HasRead (side : Side) (terms : List (List ℕ)) (section : List ℕ) (number : ℕ) (seen : List Gram) (row : GramRow) (cursor : Cursor) : Type 0 where
  pub numbers : List ℕ
  pub are : AreNumbersOf terms (gram_in section row).gram numbers
  pub some : 0 < row.count
  pub counted : length numbers + cursor.left ≡ row.count
  pub after : cursor.next ≡ next_after 0 numbers
  pub low : cursor.next ≤ number + 1
  pub read : gap_bytes section row ≡ gap_codes numbers ++ cursor.gaps.now
  pub keyed : IsKeyOf (gram_in section row).gram cursor.key
  pub on : IsOn side cursor.key
  pub all : (n : ℕ) → n < number → IsGramOfTerm terms (gram_in section row).gram n → Contains numbers n
  pub listed : (gram : Gram) → Contains seen gram → gram_key gram ≡ cursor.key → Contains numbers number

-- a cursor for each row
abbrev pub HaveRead : Side → List (List ℕ) → List ℕ → ℕ → List Gram → List GramRow → List Cursor → Type 0
HaveRead side terms section number seen rows cursors = AllZip (HasRead side terms section number seen) rows cursors

-- The terms below this number were walked, and of this term the grams seen: each that is on the side has a row.
pub record AreWalked (side : Side) (terms : List (List ℕ)) (section : List ℕ) (rows : List GramRow) (number : ℕ) (seen : List Gram) (cursors : List Cursor) : Type 0 where
  pub ascending : IsAscending (map (λ row. (gram_in section row).gram) rows)
  pub have : HaveRead side terms section number seen rows cursors
  pub before : (term : List ℕ) (gram : Gram) (n : ℕ) → n < number → slice_get terms n ≡ Some term → Contains (windows_of_term term) gram → IsOn side (gram_key gram) → HasRow section rows (text_of gram)
  pub found : (gram : Gram) → Contains seen gram → IsOn side (gram_key gram) → HasRow section rows (text_of gram)

-- The number of a term that has the gram of the cursor's row is read, or the row is not that of the terms.
abbrev pub Reads : Cursor → ℕ → Option Cursor → Type 0
Reads old number found =
    (side : Side) (terms : List (List ℕ)) (section : List ℕ) (seen : List Gram) (row : GramRow) → IsGramOfTerm terms (gram_in section row).gram number → HasRead side terms section number seen row old
    → MatchOption found (¬ (IsRowOfTerms terms section row)) (λ new. (gram : Gram) → HasRead side terms section number (seen ++ gram ∷ []) row new × (new.key ≡ old.key))

-- The next gram of the term is seen too, or the rows are not those of the terms.
abbrev pub Sees : List Cursor → ℕ → ℕ → Bool → List Cursor → Type 0
Sees old key number result new =
    (side : Side) (terms : List (List ℕ)) (section : List ℕ) (rows : List GramRow) (seen : List Gram) (gram : Gram) (term : List ℕ)
    → AreChars gram → gram_key gram ≡ key → IsOn side key → slice_get terms number ≡ Some term → Contains (windows_of_term term) gram → IsGramOfTerm terms (text_of gram) number
    → AreWalked side terms section rows number seen old → MatchBool result (AreWalked side terms section rows number (seen ++ gram ∷ []) new) (¬ (AreRowsOn side terms section rows))

-- The term of the number is walked too, or the rows are not those of the terms.
abbrev pub Walks : List Cursor → Side → List ℕ → ℕ → Bool → List Cursor → Type 0
Walks old side term number result new =
    (terms : List (List ℕ)) (section : List ℕ) (rows : List GramRow) → slice_get terms number ≡ Some term
    → AreWalked side terms section rows number [] old → MatchBool result (AreWalked side terms section rows (number + 1) [] new) (¬ (AreRowsOn side terms section rows))

-- each key is above those before it
abbrev pub KeysAscend : List Cursor → Type 0
KeysAscend cursors = (i j : ℕ) (d : Cursor) → i < j → j < length cursors → (slice_index_or cursors i d).key < (slice_index_or cursors j d).key

-- the cursor at the place is that of the key
abbrev pub IsCursorOf : List Cursor → ℕ → ℕ → Type 0
IsCursorOf cursors key place = (cursor : Cursor) × (slice_get cursors place ≡ Some cursor) × (cursor.key ≡ key)

-- the place of the key's cursor, or none if no cursor has the key
abbrev pub Finds : List Cursor → ℕ → Option ℕ → Type 0
Finds cursors key found = MatchOption found (KeysAscend cursors → All (λ cursor. cursor.key ≢ key) cursors) (IsCursorOf cursors key)

-- nothing is left
pub record IsAtEnd (cursor : Cursor) : Type 0 where
  pub none : cursor.left ≡ 0
  pub empty : length cursor.gaps.now ≡ 0
