-- Runs as sources of a merge: the pieces that these may yield are those of which the runs are.
use Rattle.std.proofs.Common.{◌≡◌, ℕ, List, [], ◌∷◌, map, length, Option, Some, None, slice_get, All, refl, sym, ap, ◌∙◌, inl, inr, arith}
use Rattle.std.proofs.lemmas.List.{length-map}
use Rattle.ix_board.proofs.Closings.{got-All}
use Rattle.ix_board.proofs.Endings.{get-map}
use Rattle.ix_text.specs.Parts.{row_of}
use Rattle.ix_run.specs.Heads.{Heading, parts_with}
use Rattle.ix_run.specs.Runs.{RunValue, IsRunOf, coded}
use Rattle.ix_run.specs.RunSources.{HasGiven, HasLeft, IsAlwaysSure, SourceValue, heading_shown, unread}
use Rattle.ix_run.specs.Sources.{IsUnread}
use Rattle.ix_merge.specs.Pieces.{ArePiecesOf, LeavesYieldedPart, MayYieldPiece, Piece, WritesConcatenation}
use Rattle.ix_build.specs.RunPieces.{AreRunsOf, LeavesRunsPart, WritesRuns}
use Rattle.ix_pool.proofs.Sums.{all_from_get}

abbrev pub heading_held : SourceValue → Heading
heading_held source = source.heading

-- a piece that the source of a run may yield is one of which the run is
pub piece_of_run : (run : RunValue) (piece : Piece) → HasGiven (unread run) [] None → MayYieldPiece HasLeft heading_held (unread run) piece → IsRunOf run piece.first piece.collection
piece_of_run run piece given yields =
    let parts = parts_with (heading_shown run) yields.entries in
    let first : run.first ≡ piece.first = ap (λ (h : Heading). h.first) (sym yields.headed) in
    let rows : run.rows ≡ map row_of piece.collection.documents = ap (λ (h : Heading). h.rows) (sym yields.headed) in
    let entries : given.rest ≡ yields.entries = sym (yields.yielded.behind given.rest given.left) in
    let terms : run.terms ≡ map coded yields.entries = given.left.told ∙ ap (map coded) entries in
    let within = given.whole.within in
    let counted : length run.rows ≡ length piece.collection.documents = ap length rows ∙ length-map piece.collection.documents row_of in
    record {
      lawful = yields.lawful;
      within = omega (arith, within, counted, first);
      parts = parts;
      of_collection = yields.of_collection;
      held = λ i. record { first = first i; stop = run.stop; rows = run.rows; terms = terms i };
    }

-- the headings of the sources are those of the runs
pub headings_held : (runs : List RunValue) → map heading_held (map unread runs) ≡ map heading_shown runs
headings_held [] = refl
headings_held (run ∷ runs) = ap (λ (l : List Heading). heading_shown run ∷ l) (headings_held runs)

-- runs in memory are always sure
pub all_sure : (sources : List SourceValue) → All IsAlwaysSure sources
all_sure sources = all_from_get IsAlwaysSure sources (λ k source at. tt)

module _ (runs : List RunValue) (before now : Option (List ℕ)) (given : All (IsUnread HasGiven) (map unread runs)) where
  -- pieces that the sources may yield are pieces of which the runs are
  runs_of_yielded : (pieces : List Piece) → ArePiecesOf HasLeft heading_held (map unread runs) pieces → AreRunsOf runs pieces
  runs_of_yielded pieces yielded = record {
    as_many = sym (length-map runs unread) ∙ sym yielded.as_many;
    each = λ place run piece at there.
        let source : slice_get (map unread runs) place ≡ Some (unread run) = get-map unread runs place run at in
        piece_of_run run piece (got-All (IsUnread HasGiven) (map unread runs) place (unread run) given source) (yielded.each place (unread run) piece source there);
  }

  -- what was written of the sources was written of the runs
  pub runs_written : WritesConcatenation HasLeft heading_held (map unread runs) before now → WritesRuns runs before now
  runs_written writes = record {
    pieces = writes.pieces;
    of_pieces = runs_of_yielded writes.pieces writes.yielded;
    whole = writes.whole;
    concatenation = writes.concatenation;
    written = writes.written;
  }

  -- so is what an error left
  pub runs_left : (if_whole : Type 0) → LeavesYieldedPart HasLeft heading_held (map unread runs) before now if_whole → LeavesRunsPart runs before now if_whole
  runs_left if_whole (inl keeps) = inl keeps
  runs_left if_whole (inr part) = inr (record {
    pieces = part.pieces;
    of_pieces = runs_of_yielded part.pieces part.yielded;
    whole = part.whole;
    concatenation = part.concatenation;
    text = part.text;
    of_whole = part.of_whole;
    gained = part.gained;
  })
