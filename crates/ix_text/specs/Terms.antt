-- When two words are one term: canonical caseless matching (The Unicode Standard, D145; UAX #15).
use Rattle.std.specs.Prelude.{ℕ, ◌<◌, ◌≤◌, List, length, chars, encode_utf8_all, IsUtf8}
use Rattle.caseless.specs.Caseless.{default_case_fold}
use Rattle.unicode_normalization.specs.Forms.{nfc, nfd}

-- NFC of the full default case folding of NFD of the characters
unfoldable pub folded : List ℕ → List ℕ
folded characters = nfc (default_case_fold (nfd characters))

-- the term of a word: the bytes of its characters, folded
unfoldable pub term_of_word : List ℕ → List ℕ
term_of_word word = encode_utf8_all (folded (chars word))

-- A term that an index may hold is UTF-8 text of 1 to 255 bytes.
pub record IsTerm (term : List ℕ) : Type 0 where
  pub text : IsUtf8 term
  pub some_byte : 0 < length term
  pub short : length term ≤ 255
