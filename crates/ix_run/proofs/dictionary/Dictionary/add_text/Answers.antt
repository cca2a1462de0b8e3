use Rattle.std.proofs.Common.{List, ℕ, map, ap, refl, ◌∙◌, arith, rules}
use Rattle.ix_text.specs.Terms.{term_of_word}
use Rattle.ix_text.specs.TokenLists.{entry_of_term, token_list}
use Rattle.ix_text.proofs.LawfulLemmas.{lawful_token_list}
use Rattle.ix_run.proofs.Numbering.{nothing_added, one_more_added}
use Rattle.ix_run.proofs.dictionary.Dictionary.add_text.Goals as goal

pub loop-word-init : goal.loop-word-init
unfolding token_list
loop-word-init c = record {
  added = nothing_added c.args.self.now.numbers c.args.self.now.tokens.items _ _ (rw (c.into_iter-word-iterator.ensures.into_iter_gives, c.unicode_words-word-items.ensures.left));
  few = c.requires.few;
  ends = refl;
  seen = c.requires.seen;
}

pub loop-word-preserved : goal.loop-word-preserved
loop-word-preserved c = record {
  added =
      one_more_added c.args.self.now.numbers c.args.self.now.tokens.items c.loop-word.self.numbers c.loop-word.self.tokens.items c.add_word.new.self.numbers c.add_word.new.self.tokens.items _ _ _ _
      (ap (map (λ (word : List ℕ). entry_of_term c.args.stop.now (term_of_word word))) c.in-Some.ensures.steps) c.in_ok-add_word.ensures.held c.in_ok-add_word.ensures.longer c.loop-word.invariant.added;
  few = let longer = c.in_ok-add_word.ensures.longer in let few = c.loop-word.invariant.few in omega (arith, longer, few);
  ends = c.add_word.ensures.ends ∙ c.loop-word.invariant.ends;
  seen = c.in_ok-add_word.ensures.seen;
}

pub returns-then-len-clause-lawful : goal.returns-then-len-clause-lawful
returns-then-len-clause-lawful c = lawful_token_list c.args.stop.now c.args.text.now c.utf8.text

pub returns-in_err-add_word-clause-lawful : goal.returns-in_err-add_word-clause-lawful
returns-in_err-add_word-clause-lawful c = lawful_token_list c.args.stop.now c.args.text.now c.utf8.text

pub returns-in_err-push-clause-lawful : goal.returns-in_err-push-clause-lawful
returns-in_err-push-clause-lawful c = lawful_token_list c.args.stop.now c.args.text.now c.utf8.text

pub returns-clause-lawful : goal.returns-clause-lawful
returns-clause-lawful c = lawful_token_list c.args.stop.now c.args.text.now c.utf8.text

-- The check finds it too; with an answer a wrong body that falls here is refused sooner.
pub returns-clause-count : goal.returns-clause-count
returns-clause-count c = search rules
