use Rattle.ix_text.proofs.TermLemmas.{term_of_word-ascii}
use Rattle.ix_text.proofs.term.write_term.Goals as goal

pub returns-in_ok-push_str : goal.returns-in_ok-push_str
returns-in_ok-push_str c =
    rw (c.make_ascii_lowercase.ensures.bytes, c.in_ok-push_str.ensures.bytes, c.clear.ensures.bytes, term_of_word-ascii c.args.word.now c.if-is_ascii.ensures.cases)
