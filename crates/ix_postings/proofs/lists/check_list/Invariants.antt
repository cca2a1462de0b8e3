-- The postings so far were gone over.
use Rattle.std.proofs.Common.{◌≤◌, ◌^◌, ◌↔◌, ℕ, List, length}
use Rattle.ix_text.specs.Parts.{DocumentRow}
use Rattle.ix_postings.specs.TokenTables.{HasTokens}
use Rattle.ix_postings.proofs.CheckedLists.{GoneOver}
use Rattle.ix_postings.proofs.lists.check_list.Given as goal

abbrev pub invariant-loop : goal.invariant-loop
invariant-loop g l = record {
  within : l.left ≤ length l.rest;
  near : l.next ≤ 2 ^ 28;
  room : (top : ℕ) → g.S.SeenTokens.has_room l.initial.seen top ↔ g.S.SeenTokens.has_room l.seen top;
  gone : (rows : List DocumentRow) → HasTokens l.tokens rows
      → GoneOver g.S.SeenTokens.admits (g.S.SeenTokens.has_seen l.initial.seen) (g.S.SeenTokens.has_seen l.seen) rows l.bytes l.rest l.size l.left l.documents l.counter l.next;
}
