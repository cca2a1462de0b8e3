use Rattle.std.proofs.Common.{◌∙◌}
use Rattle.ix_text.proofs.TokenLemmas.{entry_of_term-kept_or_dropped}
use Rattle.ix_text.proofs.token.write_token.Goals as goal

pub returns : goal.returns
returns c =
    rw c.deref.ensures at (entry_of_term-kept_or_dropped c.args.stop.now _ _ c.is_kept.result (c.deref.ensures ∙ c.in_ok-write_term.ensures) c.is_kept.ensures)
