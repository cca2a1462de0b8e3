-- Terms with their lists close together in memory: of each its coded row, its text and its list, one term behind another.
use Rattle.std.specs.Prelude.{◌≡◌, ℕ, zero, suc, ◌^◌, ◌<◌, List, [], ◌∷◌, ◌++◌, length, flat_map, take, drop, All, IsUtf8}
use Rattle.ix_vbyte.specs.Code.{code_of}
use Rattle.ix_vbyte.specs.CodesIn.{numbers_in}
use Rattle.ix_run.specs.Runs.{TermValue}
use Rattle.ix_run.specs.declared.coded_terms.TermRow.{TermRow}

-- the bytes of a row: its numbers coded one behind another
abbrev pub bytes_of_row : TermRow → List ℕ
bytes_of_row row = code_of row.text ++ (code_of row.list ++ (code_of row.documents ++ code_of row.last))

-- the numbers of the row have 32 bits
pub record IsRow (row : TermRow) : Type 0 where
  pub text : row.text < 2 ^ 32
  pub list : row.list < 2 ^ 32
  pub documents : row.documents < 2 ^ 32
  pub last : row.last < 2 ^ 32

-- the row of a term
abbrev pub row_of_term : TermValue → TermRow
row_of_term value = record { text = length value.term; list = length value.list; documents = value.documents; last = value.last }

-- The bytes begin with those of a row.
pub record BeginsWithRow (bytes : List ℕ) : Type 0 where
  pub row : TermRow
  pub rest : List ℕ
  pub is : IsRow row
  pub coded : bytes ≡ bytes_of_row row ++ rest

-- What was read from the front of the bytes is the row that stands there, and what follows it.
abbrev pub ReadsRow : List ℕ → TermRow → List ℕ → Type 0
ReadsRow bytes read rest = (row : TermRow) (others : List ℕ) → IsRow row → bytes ≡ bytes_of_row row ++ others → (read ≡ row) × (rest ≡ others)

-- the bytes of a term: its row, its text and its list
abbrev pub bytes_of_term : TermValue → List ℕ
bytes_of_term value = bytes_of_row (row_of_term value) ++ (value.term ++ value.list)

-- the term of a row with what stands behind the row, and those that are told of the rest
abbrev pub told_behind : (List ℕ → List TermValue) → TermRow → List ℕ → List TermValue
told_behind others row behind =
    record { term = take row.text behind; documents = row.documents; last = row.last; list = take row.list (drop row.text behind) } ∷ others (drop row.list (drop row.text behind))

-- the same of the row that the numbers begin with, which stands at the front of the bytes
abbrev pub told_first : (List ℕ → List TermValue) → List ℕ → List ℕ → List TermValue
told_first others bytes (text ∷ list ∷ documents ∷ last ∷ numbers) =
    let row : TermRow = record { text = text; list = list; documents = documents; last = last } in told_behind others row (drop (length (bytes_of_row row)) bytes)
told_first others bytes _ = []

-- the terms that the bytes tell from the front on, at most so many
abbrev pub terms_told : ℕ → List ℕ → List TermValue
terms_told zero bytes = []
terms_told (suc most) bytes = told_first (terms_told most) bytes (numbers_in bytes)

-- the terms that the bytes tell: none of them takes no byte
abbrev pub terms_in : List ℕ → List TermValue
terms_in bytes = terms_told (length bytes) bytes

-- the term is text, and its row has numbers of 32 bits
pub record MayBeHeld (value : TermValue) : Type 0 where
  pub utf8 : IsUtf8 value.term
  pub row : IsRow (row_of_term value)

-- The bytes are those of the terms, and nothing else.
pub record HoldTerms (bytes : List ℕ) (terms : List TermValue) : Type 0 where
  pub of_bytes : bytes ≡ flat_map bytes_of_term terms
  pub each : All MayBeHeld terms
