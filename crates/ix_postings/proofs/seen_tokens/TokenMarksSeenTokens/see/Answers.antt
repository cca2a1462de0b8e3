use Rattle.std.proofs.Common.{[], sym, ◌∙◌, arith}
use Rattle.std.proofs.lemmas.Bool.{false≢true}
use Rattle.ix_text.proofs.DistinctNumbers.{distinct_next, distinct_push}
use Rattle.ix_postings.proofs.seen_tokens.TokenMarksSeenTokens.see.Goals as goal

pub returns-then-mark-clause-seen : goal.returns-then-mark-clause-seen
returns-then-mark-clause-seen c numbers held distinct =
    (distinct_push numbers c.args.number distinct ((c.mark.ensures.free numbers held).0 c.if-mark.true), c.mark.ensures.marked numbers held)

pub returns-else-mark-clause-accepted : goal.returns-else-mark-clause-accepted
returns-else-mark-clause-accepted c numbers held free =
    absurd (false≢true (sym c.if-mark.false ∙ (c.mark.ensures.free numbers held).1 (distinct_next numbers c.args.number [] free)))

pub returns-then-mark-clause-room : goal.returns-then-mark-clause-room
returns-then-mark-clause-room c top = let same = c.mark.ensures.room in (λ has. omega (arith, has, same), λ has. omega (arith, has, same))

pub returns-else-mark-clause-room : goal.returns-else-mark-clause-room
returns-else-mark-clause-room c top = let same = c.mark.ensures.room in (λ has. omega (arith, has, same), λ has. omega (arith, has, same))
