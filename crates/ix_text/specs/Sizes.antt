-- How much the texts of documents are together: their bytes, and that they are few.
use Rattle.std.specs.Prelude.{ℕ, ◌^◌, ◌≤◌, List, length, take, drop, sum_by}
use Rattle.ix_text.specs.Collections.{NamedText, collection_of, token_total}

-- the bytes of the texts, all together; names are not counted
abbrev pub text_bytes : List NamedText → ℕ
text_bytes texts = sum_by (λ text. length text.text) texts

-- no more texts and no more bytes of them than a collection text has room for
pub record AreSmall (texts : List NamedText) : Type 0 where
  pub few : length texts ≤ 2 ^ 28
  pub short : text_bytes texts ≤ 2 ^ 28

-- under each stop set, named texts have no more tokens than bytes
abbrev pub TokensAreNoMoreThanBytes : Type 0
TokensAreNoMoreThanBytes = (stop : List (List ℕ)) (texts : List NamedText) → token_total (collection_of stop texts) ≤ text_bytes texts

-- some of small texts, so many in a row from a place on, are small
abbrev pub SlicesAreSmall : Type 0
SlicesAreSmall = (texts : List NamedText) (from count : ℕ) → AreSmall texts → AreSmall (take count (drop from texts))
