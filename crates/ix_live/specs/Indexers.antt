-- The indexer of a live index.
use Rattle.std.specs.Prelude.{◌≡◌, ℕ, List}
use mathlib.Core.List.{IsPrefix}
use Rattle.logbook.specs.Pages.{Book, Named}
use Rattle.ix_live.specs.Histories.{Known, operations_of}
use Rattle.ix_live.specs.Logs.{Reached, head_of}
use Rattle.ix_live.specs.Operations.{Operation}
use Rattle.ix_live.specs.Pieces.{Piece}
use Rattle.ix_live.specs.Segments.{joined}
use Rattle.ix_live.specs.Versions.{VersionValue}

-- the stop set, which live index it is, the operations of each publish so far and those that wait for the next one, and how
-- all documents are shared among segments
pub record IndexerValue : Type 0 where
  pub stop : List (List ℕ)
  pub book : Book
  pub published : List (List Operation)
  pub pending : List Operation
  pub pieces : List Piece

-- an indexer of the version that is grown, and of how far its log was seen
abbrev pub indexer_of : VersionValue → Reached → IndexerValue
indexer_of next reached = record {
  stop = next.stop;
  book = reached.book;
  published = next.past.publishes;
  pending = next.past.pending;
  pieces = next.pieces;
}

-- What is shown is what the version that is grown has published, and nothing that is pending; the log has no operation that
-- the version lacks, and the word is that of the log.
pub record IsAhead (shown : Known) (next : VersionValue) (reached : Reached) (head : Named) : Type 0 where
  pub stop : shown.stop ≡ next.stop
  pub book : shown.history.book ≡ reached.book
  pub publishes : shown.history.publishes ≡ next.past.publishes
  pub begins : IsPrefix (joined reached.entries) (operations_of next.past)
  pub head_is : head ≡ head_of reached.book
