-- The token list of a text: an entry for each of its words (UAX #29), in order. An entry's place, from 0, is its position.
use Rattle.std.specs.Prelude.{ℕ, Bool, ◌&&◌, not, List, map, length, nat_lt, nat_le, bytes_eq, Option, Some, None, if◌then◌else◌}
use Rattle.std.specs.List.{list_any}
use Rattle.unicode_segmentation.specs.Word.{words}
use Rattle.ix_text.specs.Terms.{term_of_word}

-- an entry is a term, or nothing
abbrev pub Entry : Type 0
Entry = Option (List ℕ)

-- a term of 1 to 255 bytes
abbrev pub is_term_size : List ℕ → Bool
is_term_size term = nat_lt 0 (length term) && nat_le (length term) 255

-- the term is one of the stop terms
abbrev pub is_stop_term : List (List ℕ) → List ℕ → Bool
is_stop_term stop term = list_any (λ stopped. bytes_eq stopped term) stop

-- the entry of a term: nothing where it is a stop term or has no lawful size
unfoldable pub entry_of_term : List (List ℕ) → List ℕ → Entry
entry_of_term stop term = if is_term_size term && not (is_stop_term stop term) then Some term else None

-- the token list of a text under a stop list
unfoldable pub token_list : List (List ℕ) → List ℕ → List Entry
token_list stop text = map (λ word. entry_of_term stop (term_of_word word)) (words text)
