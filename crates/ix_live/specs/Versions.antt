-- Versions: what a live index keeps of what was done to it.
use Rattle.std.specs.Prelude.{◌≡◌, ◌↔◌, ℕ, ◌^◌, ◌≤◌, List, map, length, Option, Contains}
use Rattle.std.specs.List.Sorted.{IsStrictlyIncreasing}
use Rattle.ix_text.specs.Collections.{Document}
use Rattle.ix_merge.specs.Rows.{tokens_in}
use Rattle.ix_live.specs.Histories.{Past}
use Rattle.ix_live.specs.Operations.{Operation, Add, Remove, documents_added, numbers_removed}
use Rattle.ix_live.specs.Pieces.{Falls, Piece, pieces_in}
use Rattle.ix_live.specs.Segments.{AreSegmentsOf, joined, rows_in}
use Rattle.ix_live.specs.declared.entry.Entry.{Entry}
use Rattle.ix_live.specs.declared.entry.Entry.TheVariants.{Added, Removed}
use Rattle.ix_live.specs.declared.segment.Segment.{Segment}

-- a version as contracts see it: its stop set, what was done, and how its documents are shared among segments
pub record VersionValue : Type 0 where
  pub stop : List (List ℕ)
  pub past : Past
  pub pieces : List Piece

-- an operation without its documents
abbrev pub entry_of : Operation → Entry
entry_of (Add documents) = Added (length documents)
entry_of (Remove number) = Removed number

-- The operations are kept by these fields: segments have the documents, and entries cut them into operations.
pub record IsStored (stop : List (List ℕ)) (segments : List (Option Segment)) (entries : List Entry) (removed : List ℕ) (count tokens : ℕ) (operations : List Operation) : Type 0 where
  pub lists : List (List Document)
  pub indexed : AreSegmentsOf stop segments lists
  pub documents : documents_added operations ≡ joined lists
  pub cut : map entry_of operations ≡ entries
  pub ascending : IsStrictlyIncreasing removed
  pub all_removed : (number : ℕ) → Contains removed number ↔ Contains (numbers_removed operations) number
  pub counted : count ≡ length (rows_in segments)
  pub few : count ≤ 2 ^ 28
  pub tokens_counted : tokens ≡ tokens_in (rows_in segments)
  pub few_tokens : tokens ≤ 2 ^ 28
  pub falling : Falls (pieces_in segments)
