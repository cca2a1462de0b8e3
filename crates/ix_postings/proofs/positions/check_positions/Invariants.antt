-- The positions so far were gone over.
use Rattle.std.proofs.Common.{◌↔◌, ℕ}
use Rattle.ix_postings.proofs.PositionLemmas.{SeenSoFar}
use Rattle.ix_postings.proofs.positions.check_positions.Given as goal

abbrev pub invariant-loop : goal.invariant-loop
invariant-loop g l = record {
  room : (top : ℕ) → g.S.SeenTokens.has_room l.initial.seen top ↔ g.S.SeenTokens.has_room l.seen top;
  so_far : SeenSoFar g.S.SeenTokens.admits (g.S.SeenTokens.has_seen l.initial.seen) (g.S.SeenTokens.has_seen l.seen) l.span.0 l.span.1 l.count l.counter l.bytes l.rest l.next;
}
