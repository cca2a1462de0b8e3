use Rattle.std.proofs.Common.{◌∙◌, sym}
use Rattle.ix_text.proofs.TermLemmas.{term_of_word-small_ascii, term_of_word-ascii, term_of_word-by_steps, term_of_word-at_once}
use Rattle.ix_text.proofs.term.term_of.Goals as goal

pub returns-then-is_small_ascii : goal.returns-then-is_small_ascii
returns-then-is_small_ascii c = rw (term_of_word-small_ascii c.args.word.now (c.is_small_ascii.ensures.0 c.if-is_small_ascii.true)) c.from_str.ensures.ok

pub returns-then-is_ascii : goal.returns-then-is_ascii
returns-then-is_ascii c = rw (term_of_word-ascii c.args.word.now c.if-is_ascii.ensures.cases) c.lowercase.ensures

pub returns-then-has_iota_below : goal.returns-then-has_iota_below
returns-then-has_iota_below c =
    rw (term_of_word-by_steps c.args.word.now c.as_str.result.now c.as_str.utf8 (c.as_str.ensures.value ∙ c.in_ok-decomposed.ensures)) c.fold.ensures

pub returns : goal.returns
returns c = rw (term_of_word-at_once c.args.word.now (sym c.has_iota_below.ensures ∙ c.if-has_iota_below.false)) c.fold-2.ensures
