use Rattle.ix_text.proofs.TokenLemmas.{keeps-by_search}
use Rattle.ix_text.proofs.token.is_kept.Goals as goal

pub returns-then-has_term_size : goal.returns-then-has_term_size
returns-then-has_term_size c =
    keeps-by_search c.args.stop.now c.args.term.now c.has_term_size.result c.contains.result c.has_term_size.ensures c.if-has_term_size.true c.contains.ensures
