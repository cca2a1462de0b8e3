-- What a run or a quoted text of a query stands for: a pattern, or the phrase of its words (IIR 2.4.2, 3.2).
use Rattle.std.specs.Prelude.{ℕ, Bool, List, [], ◌∷◌, map, reverse, length, nat_lt, ◌==◌, Some, None, ok_or, Result, Ok, Err, if◌then◌else◌}
use Rattle.std.specs.List.{list_any, list_all}
use Rattle.unicode_segmentation.specs.Word.{words}
use Rattle.ix_gram.specs.Patterns.{pieces_of}
use Rattle.ix_text.specs.Terms.{term_of_word}
use Rattle.ix_text.specs.TokenLists.{Entry, entry_of_term}
use Rattle.ix_query_text.specs.declared.error.QueryError.{QueryError}
use Rattle.ix_query_text.specs.declared.error.QueryError.TheVariants.{NoWord, OnlyStopWords, BareStar, StarInPhrase, NearWord, LongTerm}
use Rattle.ix_query_text.specs.QueryErrors.{◌>>=◌}
use Rattle.ix_query_text.specs.declared.tree.Tree.{Tree}
use Rattle.ix_query_text.specs.declared.tree.Tree.TheVariants.{Phrase, Pattern}

abbrev pub is_star : ℕ → Bool
is_star byte = byte == 42

-- the word's term has more bytes than a term may have
abbrev pub is_long_word : List ℕ → Bool
is_long_word word = nat_lt 255 (length (term_of_word word))

-- the entry of a word
unfoldable pub entry_reading : List (List ℕ) → List ℕ → Result Entry QueryError
entry_reading stop word = if is_long_word word then Err LongTerm else Ok (entry_of_term stop (term_of_word word))

-- the entries from the first term on
abbrev pub drop_holes : List Entry → List Entry
drop_holes [] = []
drop_holes (None ∷ entries) = drop_holes entries
drop_holes (Some term ∷ entries) = Some term ∷ entries

-- the entries without the holes at both ends
abbrev pub strip_holes : List Entry → List Entry
strip_holes entries = reverse (drop_holes (reverse (drop_holes entries)))

-- the entries of words
unfoldable pub entries_reading : List (List ℕ) → List (List ℕ) → Result (List Entry) QueryError
entries_reading stop words = if list_any is_long_word words then Err LongTerm else Ok (map (λ word. entry_of_term stop (term_of_word word)) words)

-- terms and holes as a phrase, where a term is left
abbrev pub phrase_of : List Entry → Result Tree QueryError
phrase_of entries = if length entries == 0 then Err OnlyStopWords else Ok (Phrase entries)

-- the phrase of the words of a text: their terms and holes, without the holes at both ends
unfoldable pub phrase_reading : List (List ℕ) → List ℕ → Result Tree QueryError
phrase_reading stop text =
    if length (words text) == 0 then Err NoWord
    else entries_reading stop (words text) >>= λ entries. phrase_of (strip_holes entries)

-- the term of the one word
abbrev pub only_term : List (List ℕ) → List (List ℕ) → Result (List ℕ) QueryError
only_term stop (word ∷ []) = entry_reading stop word >>= λ entry. ok_or entry NearWord
only_term stop words = Err NearWord

-- the pattern of a text with a star
abbrev pub pattern_reading : List ℕ → Result Tree QueryError
pattern_reading text = if list_all is_star text then Err BareStar else Ok (Pattern (pieces_of text))

-- a run that stands beside no NEAR
unfoldable pub plain : (stop : List (List ℕ)) → (run : List ℕ) → Result Tree QueryError
plain stop run = if list_any is_star run then pattern_reading run else phrase_reading stop run

-- a quoted text
unfoldable pub quoted : (stop : List (List ℕ)) → (text : List ℕ) → Result Tree QueryError
quoted stop text = if list_any is_star text then Err StarInPhrase else phrase_reading stop text

-- a run beside NEAR
unfoldable pub beside : (stop : List (List ℕ)) → (run : List ℕ) → Result (List ℕ) QueryError
beside stop run = if list_any is_star run then Err NearWord else only_term stop (words run)
