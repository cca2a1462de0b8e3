use Rattle.std.proofs.Common.{◌≡◌, map, take, false}
use Rattle.std.specs.List.{list_any}
use Rattle.ix_text.specs.Terms.{term_of_word}
use Rattle.ix_text.specs.TokenLists.{entry_of_term}
use Rattle.ix_query_text.specs.Judgement.{is_long_word}
use Rattle.ix_query_text.proofs.judge.entries.Given as goal

abbrev pub invariant-loop-word : goal.invariant-loop-word
invariant-loop-word l = record {
  entries : l.entries.items ≡ map (λ word. entry_of_term l.stop (term_of_word word.now)) (take l.word-index l.words);
  short : list_any (λ word. is_long_word word.now) (take l.word-index l.words) ≡ false;
}
