use Rattle.std.proofs.Common.{◌≡◌, ◌≤◌, ◌++◌, map, take, option_map, string_bytes, vec_len}
use Rattle.unicode_segmentation.specs.Iter.{unicode_words_left}
use Rattle.ix_text.specs.Terms.{term_of_word}
use Rattle.ix_text.specs.TokenLists.{entry_of_term, token_list}
use Rattle.ix_text.proofs.token.write_tokens.Given as goal

-- the entries so far, and those of the words that are left
abbrev pub invariant-loop-word : goal.invariant-loop-word
invariant-loop-word l =
    (l.count ≤ vec_len l.list)
    × (map (option_map string_bytes) (take l.count l.list.items) ++ map (λ word. entry_of_term l.stop (term_of_word word)) (unicode_words_left l.word-iterator)
    ≡ token_list l.stop l.text)
