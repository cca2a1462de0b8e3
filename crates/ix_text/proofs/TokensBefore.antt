-- The tokens before each document: one more document changes nothing before it, and the next has its own.
use Rattle.std.proofs.Common.{◌≡◌, ℕ, ◌+◌, ◌<◌, ◌≤◌, List, ◌++◌, length, slice_get, Some, sum_by, ap, ◌∙◌}
use Rattle.std.proofs.lemmas.List.{take-append-le, take_all}
use Rattle.std.proofs.lemmas.List.Sums.{sum_by_more}
use Rattle.std.proofs.lemmas.Option.{slice_get_within, get_or_from_slice_get}
use Rattle.ix_text.specs.Parts.{DocumentRow}
use Rattle.ix_text.specs.TokenNumbers.{tokens_before}

-- how many tokens a document has
abbrev pub count_of : DocumentRow → ℕ
count_of row = row.tokens

-- all documents stand before the end
pub tokens_before_end : (rows : List DocumentRow) (document : ℕ) → length rows ≤ document → tokens_before rows document ≡ sum_by count_of rows
tokens_before_end rows document h = ap (sum_by count_of) (take_all document rows h)

-- a document more changes nothing before it
pub tokens_before_front : (rows more : List DocumentRow) (document : ℕ) → document ≤ length rows → tokens_before (rows ++ more) document ≡ tokens_before rows document
tokens_before_front rows more document h = ap (sum_by count_of) (take-append-le document rows more h)

-- the document at a place adds its tokens
pub tokens_before_next : (rows : List DocumentRow) (document : ℕ) (row : DocumentRow) → slice_get rows document ≡ Some row → tokens_before rows (document + 1) ≡ tokens_before rows document + row.tokens
tokens_before_next rows document row numbered =
    let within : document < length rows = slice_get_within rows document row numbered in
    sum_by_more count_of rows document row within ∙ ap (λ (r : DocumentRow). tokens_before rows document + r.tokens) (get_or_from_slice_get rows document row row numbered)
