use Rattle.std.proofs.Common.{option_map}
use Rattle.std.specs.Prelude.{string_bytes}
use Rattle.ix_query.proofs.PositionLemmas.{searched_more, near_all, entry_at}
use Rattle.ix_query.proofs.satisfaction.are_near.Goals as goal

pub loop-position-preserved : goal.loop-position-preserved
loop-position-preserved c =
    searched_more _ _ _ _ _ _ _ _ _
    c.is_term-is_first.result c.is_term-is_second.result c.meets.result c.meets-in-loop-position.result
    (option_map string_bytes c.index-tokens-position.result)
    (entry_at _ c.args.tokens.now c.loop-position.position c.index-tokens-position.result c.loop-position-test.true c.index-tokens-position.is)
    c.is_term-is_first.ensures c.is_term-is_second.ensures
    c.meets.ensures c.if-meets.false c.meets-in-loop-position.ensures c.if-meets-2.false
    c.latest-last_first.ensures c.latest-last_second.ensures
    c.loop-position.invariant

pub returns : goal.returns
returns c = (λ e. absurd (cc), λ h. absurd (near_all _ c.args.tokens.now _ _ _ _ c.loop-position-test.false c.loop-position.invariant.none_near h))
