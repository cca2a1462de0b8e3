-- One run of all documents, merged alone, gives the index text of their collection.
use Rattle.std.proofs.Common.{◌≡◌, ℕ, zero, suc, List, [], ◌∷◌, refl, subst, append-nil, arith}
use Rattle.std.specs.Prelude.{Option, Some, slice_get}
use Rattle.std.proofs.lemmas.List.Elements.{All-cons, All-nil}
use Rattle.std.proofs.lemmas.Option.{none-some, same_Some}
use Rattle.ix_text.specs.Collections.{NamedText, collection_of}
use Rattle.ix_file.specs.Endings.{WritesIndexText}
use Rattle.ix_run.specs.Runs.{IsRunOf, RunValue}
use Rattle.ix_run.specs.RunSources.{HasGiven, HasLeft, unread}
use Rattle.ix_run.specs.Sources.{IsUnread}
use Rattle.ix_merge.specs.Pieces.{Piece, WritesConcatenation}
use Rattle.ix_build.specs.Blocks.{bounds_from}
use Rattle.ix_build.specs.RunPieces.{AreRunsOf, pieces_from}
use Rattle.ix_build.proofs.BuiltBlocks.{blocks_written}
use Rattle.ix_build.proofs.RunMerging.{heading_held, runs_written}

-- the run of all texts is that of their one block
one_piece : (run : RunValue) (stop : List (List ℕ)) (texts : List NamedText) → IsRunOf run 0 (collection_of stop texts) → AreRunsOf (run ∷ []) (pieces_from 0 stop (texts ∷ []))
one_piece run stop texts is = record { as_many = refl; each = of_place }
  where
    of_place : (place : ℕ) (other : RunValue) (piece : Piece) → slice_get (run ∷ []) place ≡ Some other → slice_get (pieces_from 0 stop (texts ∷ [])) place ≡ Some piece
        → IsRunOf other piece.first piece.collection
    of_place zero other piece at there =
        let here = same_Some (record { first = 0; collection = collection_of stop texts }) piece there in
        subst (λ (p : Piece). IsRunOf other p.first p.collection) here
        (subst (λ (r : RunValue). IsRunOf r 0 (collection_of stop texts)) (same_Some run other at) is)
    of_place (suc place) other piece at there = absurd (none-some other at)

-- what a merge of that run alone writes
pub one_run_written : (run : RunValue) (stop : List (List ℕ)) (texts : List NamedText) (before now : Option (List ℕ)) → IsRunOf run 0 (collection_of stop texts) → IsUnread HasGiven (unread run)
    → WritesConcatenation HasLeft heading_held (unread run ∷ []) before now → WritesIndexText before now (collection_of stop texts)
one_run_written run stop texts before now is given writes =
    blocks_written texts stop (bounds_from 0 (texts ∷ [])) (texts ∷ []) (append-nil texts) refl (omega arith) (run ∷ []) before now (one_piece run stop texts is)
    (runs_written (run ∷ []) before now (All-cons (IsUnread HasGiven) (unread run) [] given (All-nil (IsUnread HasGiven))) writes)
