use Rattle.std.proofs.Common.{◌≤◌, ◌^◌, ℕ, List, length}
use Rattle.ix_text.specs.Parts.{DocumentRow, Posting}
use Rattle.ix_postings.specs.TokenTables.{HasTokens}
use Rattle.ix_vbyte.specs.Skips.{AreSkipsIn}
use Rattle.ix_file.specs.Claimed.{HasClaimed, HasRoom}
use Rattle.ix_file.specs.LongLists.{HasRoomFor}
use Rattle.ix_file.specs.ReadLists.{AreListedIn}
use Rattle.ix_file.proofs.ListReading.{HasReadList, ListGoesOn}
use Rattle.ix_file.proofs.open.list.check_list.Given as goal

abbrev pub invariant-loop-document : goal.invariant-loop-document
invariant-loop-document l = record {
  read : (rows : List DocumentRow) → HasTokens l.tokens rows → HasReadList rows l.next l.document l.bytes l.left l.initial.claims l.claims;
  goes_on : (rows : List DocumentRow) (postings : List Posting) → HasTokens l.tokens rows → AreListedIn rows l.documents l.bytes postings → ListGoesOn rows l.next l.document l.documents l.left;
  entered : AreSkipsIn l.documents l.bytes l.skips.items;
  few : HasRoomFor (length l.bytes) (length l.skips.items) l.end;
  near : l.next ≤ 2 ^ 28;
  claimed : (numbers : List ℕ) × HasClaimed l.claims numbers;
  room : (top : ℕ) → HasRoom l.initial.claims top → HasRoom l.claims top;
}
