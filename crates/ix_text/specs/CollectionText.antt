-- A collection text: UTF-8 of at most 2^28 bytes, each document one line `name TAB text LF`.
use Rattle.std.specs.Prelude.{◌≡◌, ℕ, ◌^◌, ◌≤◌, List, [], ◌∷◌, ◌++◌, length, flat_map, All, Contains, IsUtf8}
use Rattle.ix_text.specs.Collections.{NamedText, IsName}

-- the line of a document
abbrev pub line_of : NamedText → List ℕ
line_of d = d.name ++ 9 ∷ (d.text ++ 10 ∷ [])

-- the bytes are the text of these documents, in order
pub record IsCollectionText (bytes : List ℕ) (documents : List NamedText) : Type 0 where
  pub size : length bytes ≤ 2 ^ 28
  pub characters : IsUtf8 bytes
  pub lines : bytes ≡ flat_map line_of documents
  pub names : All (λ d. IsName d.name) documents
  pub texts : All (λ d. ¬ (Contains d.text 10)) documents
