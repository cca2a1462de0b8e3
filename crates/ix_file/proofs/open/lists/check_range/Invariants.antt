use Rattle.std.proofs.Common.{◌+◌, ◌≤◌, All, ℕ, List, slice_range}
use Rattle.ix_text.specs.Parts.{DocumentRow}
use Rattle.ix_postings.specs.TokenTables.{HasTokens}
use Rattle.ix_file.specs.LongLists.{IsLongIn, bytes_before, place_count}
use Rattle.ix_file.specs.Claimed.{HasRoom}
use Rattle.ix_file.proofs.AllLists.{HasReadLists}
use Rattle.ix_file.proofs.open.lists.check_range.Given as goal

abbrev pub invariant-loop-number : goal.invariant-loop-number
invariant-loop-number l = record {
  read : (rows : List DocumentRow) → HasTokens l.tokens rows → HasReadLists rows l.section (slice_range l.terms l.from l.number) l.initial.claims l.claims;
  entered : All (IsLongIn l.section l.terms) l.longs.items;
  few : bytes_before l.terms l.from + place_count l.longs.items ≤ bytes_before l.terms l.number;
  room : (top : ℕ) → HasRoom l.initial.claims top → HasRoom l.claims top;
}
