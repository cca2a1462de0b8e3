use Rattle.std.proofs.Common.{option_map}
use Rattle.std.proofs.lemmas.Bool.{iff_false}
use Rattle.std.specs.Prelude.{string_bytes}
use Rattle.ix_query.proofs.PositionLemmas.{matches_more, matches_all, entry_at}
use Rattle.ix_query.proofs.satisfaction.has_match.Goals as goal

pub loop-entry-preserved : goal.loop-entry-preserved
loop-entry-preserved c =
    matches_more _ _ _ (option_map string_bytes c.entry-item.result)
    (entry_at _ c.args.tokens.now c.loop-entry.entry-index c.entry-item.result c.loop-entry-test.true c.entry-item.is)
    (iff_false c.is_match.ensures c.if-is_match.false)
    c.loop-entry.invariant

pub returns : goal.returns
returns c = (λ e. absurd (cc), λ h. absurd (matches_all _ c.args.tokens.now _ _ c.loop-entry-test.false c.loop-entry.invariant h))
