use Rattle.std.proofs.Common.{◌≡◌, ◌≤◌, ◌^◌, length, map}
use Rattle.unicode_segmentation.specs.Iter.{unicode_words_left}
use Rattle.ix_text.specs.Terms.{term_of_word}
use Rattle.ix_text.specs.TokenLists.{entry_of_term, token_list}
use Rattle.ix_run.specs.SeenWords.{AreSeen}
use Rattle.ix_run.proofs.Numbering.{HasAdded}
use Rattle.ix_run.proofs.dictionary.Dictionary.add_text.Given as goal

-- some entries of the token list were added, and those of the words that are left follow
abbrev pub invariant-loop-word : goal.invariant-loop-word
invariant-loop-word l = record {
  added : HasAdded l.initial.self.numbers l.initial.self.tokens.items l.self.numbers l.self.tokens.items (map (λ word. entry_of_term l.stop (term_of_word word)) (unicode_words_left l.word-iterator)) (token_list l.stop l.text);
  few : length l.self.tokens.items ≤ 2 ^ 28;
  ends : l.self.ends.items ≡ l.initial.self.ends.items;
  seen : AreSeen l.stop l.self.numbers l.words;
}
