use Rattle.std.proofs.Common.{◌∙◌, sym, arith, append-nil}
use Rattle.ix_text.specs.TokenLists.{token_list}
use Rattle.ix_text.proofs.TokenLemmas.{taken_more}
use Rattle.ix_text.proofs.token.write_tokens.Goals as goal

pub loop-word-init : goal.loop-word-init
unfolding token_list
loop-word-init c =
    (omega arith, rw (c.into_iter-word-iterator.ensures.into_iter_gives, c.unicode_words-word-items.ensures.left))

pub loop-word-preserved : goal.loop-word-preserved
loop-word-preserved c =
    let within = c.in_ok-write_entry_at.ensures.within in
    (omega (arith, within), taken_more _ _ _ _ _ _ _ c.in_ok-write_entry_at.ensures.entry (rw c.in-Some.ensures.steps at c.loop-word.invariant.1))

pub returns-clause-front : goal.returns-clause-front
returns-clause-front c = sym (append-nil _) ∙ (rw c.in-None.ensures.steps.0 at c.loop-word.invariant.1)
