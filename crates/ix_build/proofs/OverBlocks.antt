-- Runs of blocks that were saved and read back: what their merge writes, and what it leaves.
use Rattle.std.proofs.Common.{◌≡◌, ℕ, zero, suc, ◌+◌, ◌<◌, ◌≤◌, ◌^◌, List, [], ◌∷◌, map, length, Option, refl, sym, ap, ap₂, subst, ◌∙◌, inl, inr, arith}
use Rattle.std.specs.Prelude.{Some, slice_get, slice_range}
use Rattle.std.proofs.lemmas.List.{length-map}
use Rattle.std.proofs.lemmas.Option.{none-some, same_Some, slice_get_within}
use Rattle.ix_board.proofs.Endings.{get-map}
use Rattle.ix_board.proofs.SliceGets.{get-within}
use Rattle.ix_text.specs.Collections.{Collection, NamedText, collection_of, token_total}
use Rattle.ix_text.specs.Parts.{row_of}
use Rattle.ix_merge.specs.Endings.{WritesIndexText}
use Rattle.ix_run.specs.Heads.{Heading, heading_of, parts_with}
use Rattle.ix_run.specs.Reading.{MayYield}
use Rattle.ix_run.specs.RunReaders.{heading_read}
use Rattle.ix_run.specs.RunSources.{heading_shown}
use Rattle.ix_run.specs.RunText.{IsRunText, run_layout}
use Rattle.ix_run.specs.Runs.{RunValue}
use Rattle.ix_run.specs.RunHead.{RunHead}
use Rattle.ix_run.specs.RunReader.{RunReader}
use Rattle.ix_run.proofs.RunTold.{run_told}
use Rattle.ix_merge.specs.Pieces.{ArePiecesOf, IsConcatenation, LeavesFront, MayYieldPiece, Piece, heading_of_piece}
use Rattle.ix_merge.specs.Refusals.{IsRefusal}
use Rattle.ix_build.specs.AlikeFronts.{AreAlike, LeavesAlikeFront, WritesAlike}
use Rattle.ix_build.specs.Blocks.{bounds_from}
use Rattle.ix_build.specs.BlockRuns.{IsRunOfBlock}
use Rattle.ix_build.specs.GivenBack.{IsTextOfBlock}
use Rattle.ix_build.specs.OwnParts.{LeavesOwnPart}
use Rattle.ix_build.specs.RunPieces.{AreRunsOf, pieces_from}
use Rattle.ix_build.specs.ReadBack.{AreReadBack, IsReadBack, LeavesReadBackPart, MayBeMerged, TellBytes, WritesReadBack}
use Rattle.ix_build.specs.SavingMakers.{IsHeadOfBlock}
use Rattle.ix_build.proofs.BlockLemmas.{all_in}
use Rattle.ix_build.proofs.BlockPieces.{headings_from, rows_are, stop_of, whole_is}
use Rattle.ix_build.proofs.BuiltBlocks.{blocks_left, blocks_refused, headings_are, piece_between, runs_of_blocks}
use Rattle.ix_build.proofs.Consecutive.{same_at_each}
use Rattle.ix_build.proofs.OwnPartLemmas.{own_part}
use Rattle.ix_build.proofs.ReadBackLemmas.{headings_read}

-- ---- heads and runs

-- a run for each head
runs_for : (P : ℕ → RunValue → Type 0) (heads : List RunHead)
    → ((place : ℕ) (head : RunHead) → slice_get heads place ≡ Some head → (run : RunValue) × P place run × (heading_of head ≡ heading_shown run))
    → (runs : List RunValue) × (map heading_shown runs ≡ map heading_of heads) × ((place : ℕ) (run : RunValue) → slice_get runs place ≡ Some run → P place run)
runs_for P [] each = ([], refl, λ place run at. absurd (none-some run at))
runs_for P (head ∷ heads) each =
    let first = each 0 head refl in
    let rest = runs_for (λ place. P (suc place)) heads (λ place other at. each (suc place) other at) in (
      first.0 ∷ rest.0,
      ap₂ (λ (h : Heading) (hs : List Heading). h ∷ hs) (sym first.2) rest.1,
      by first.0 first.1 rest.0 rest.2,
    )
  where
    by : (one : RunValue) → P 0 one → (runs : List RunValue) → ((place : ℕ) (run : RunValue) → slice_get runs place ≡ Some run → P (suc place) run)
        → (place : ℕ) (run : RunValue) → slice_get (one ∷ runs) place ≡ Some run → P place run
    by one here runs there zero run at = subst (P 0) (same_Some one run at) here
    by one here runs there (suc place) run at = there place run at

-- ---- a piece that a reader may yield

-- the bytes that came are the run text of the piece that a reader of them may yield
text_of_piece : {R : Type 0} (remaining : R → Option (List ℕ)) (may_come : List ℕ → Type 0) (heading : Heading) (reader : RunReader R) (piece : Piece)
    → IsReadBack remaining may_come heading reader → TellBytes remaining → MayYieldPiece (MayYield remaining) heading_read reader piece
    → (bytes : List ℕ) × may_come bytes × IsRunText piece.first piece.collection bytes
text_of_piece remaining may_come heading reader piece read tell yields =
    let of_bytes = read.told tell in
    let shown = heading_read reader in
    let first : shown.first ≡ piece.first = ap (λ (h : Heading). h.first) (sym yields.headed) in
    let rows = ap (λ (h : Heading). h.rows) (sym yields.headed) in
    let within = read.unread.lawful.whole.within in
    let counted = ap length rows ∙ length-map piece.collection.documents row_of in
    let parts = parts_with shown yields.entries in (
      of_bytes.bytes,
      of_bytes.came,
      record {
        lawful = yields.lawful;
        within = omega (arith, within, counted, first);
        parts = parts;
        of_collection = yields.of_collection;
        spelled = of_bytes.spelled yields.entries yields.yielded ∙ ap (λ (n : ℕ). run_layout n parts) first;
      },
    )

module _ (texts : List NamedText) (stop : List (List ℕ)) (bounds : List ℕ) (blocks : List (List NamedText))
    (whole : all_in blocks ≡ texts) (bounds_are : bounds ≡ bounds_from 0 blocks) (some : 0 < length blocks)
    (heads : List RunHead) (long : length heads ≡ length blocks)
    (each : (place : ℕ) (head : RunHead) → slice_get heads place ≡ Some head → IsHeadOfBlock texts stop bounds place head)
    (before now : Option (List ℕ)) where
  runs : (runs : List RunValue) × (map heading_shown runs ≡ map heading_of heads) × ((place : ℕ) (run : RunValue) → slice_get runs place ≡ Some run → IsRunOfBlock texts stop bounds place run)
  runs = runs_for (IsRunOfBlock texts stop bounds) heads (λ place head at. let is = each place head at in (is.run, is.of_block, is.headed))

  as_many : length runs.0 ≡ length blocks
  as_many = sym (length-map runs.0 heading_shown) ∙ ap length runs.1 ∙ length-map heads heading_of ∙ long

  are : AreRunsOf runs.0 (pieces_from 0 stop blocks)
  are = runs_of_blocks texts stop bounds blocks whole bounds_are some runs.0 as_many runs.2

  heads_are : map heading_of heads ≡ headings_from 0 stop blocks
  heads_are = sym runs.1 ∙ headings_are texts stop bounds blocks whole bounds_are some runs.0 before now are

  -- they are not refused for what they are
  pub heads_merge : token_total (collection_of stop texts) ≤ 2 ^ 28 → MayBeMerged (map heading_of heads)
  heads_merge few error refusal =
      blocks_refused texts stop bounds blocks whole bounds_are some runs.0 before now are few error
      (subst (λ (hs : List Heading). IsRefusal hs error) (sym runs.1) refusal)

  -- what a refused merge left is a front of the index text of a collection like theirs
  pub heads_left : LeavesFront (map heading_of heads) before now → LeavesAlikeFront (collection_of stop texts) before now
  heads_left leaves =
      blocks_left texts stop bounds blocks whole bounds_are some runs.0 before now are
      (subst (λ (hs : List Heading). LeavesFront hs before now) (sym runs.1) leaves)

  module _ {R : Type 0} (remaining : R → Option (List ℕ)) (back : ℕ → List ℕ → Type 0) where
    -- a concatenation of pieces that the readers may yield
    module _ (readers : List (RunReader R)) (read : AreReadBack remaining back (map heading_of heads) readers)
        (pieces : List Piece) (yielded : ArePiecesOf (MayYield remaining) heading_read readers pieces) (joined : Collection) (is_joined : IsConcatenation pieces joined) where
      reader_at : (place : ℕ) → place < length pieces → (reader : RunReader R) × (slice_get readers place ≡ Some reader)
      reader_at place within = let many = yielded.as_many in get-within readers place (omega (arith, within, many))

      pieces_headed : map heading_of_piece pieces ≡ headings_from 0 stop blocks
      pieces_headed =
          let many = yielded.as_many in
          let told = length-map pieces heading_of_piece in
          let read_many = length-map readers heading_read in
          same_at_each (map heading_of_piece pieces) (map heading_read readers) (omega (arith, many, told, read_many))
          (λ k within.
          let inside : k < length pieces = omega (arith, within, many, read_many) in
          let piece = get-within pieces k inside in
          let reader = reader_at k inside in
          get-map heading_of_piece pieces k piece.0 piece.1 ∙ ap (λ (h : Heading). Some h) (yielded.each k reader.0 piece.0 reader.1 piece.1).headed
          ∙ sym (get-map heading_read readers k reader.0 reader.1))
          ∙ headings_read remaining back (map heading_of heads) readers read
          ∙ heads_are

      -- it is a collection like theirs
      joined_alike : AreAlike joined (collection_of stop texts)
      joined_alike =
          let rows = rows_are stop blocks some pieces pieces_headed joined is_joined in
          let P : List NamedText → Type 0 = λ l. map row_of joined.documents ≡ map row_of (collection_of stop l).documents in
          record { stop = rows.0 ∙ sym (stop_of stop texts); rows = subst P whole rows.1 }

      module _ (tell : TellBytes remaining) (gives : (place : ℕ) (bytes : List ℕ) → place + 1 < length bounds → back place bytes → IsTextOfBlock texts stop bounds place bytes) (size : length heads + 1 ≡ length bounds) where
        pieces_long : length pieces ≡ length (pieces_from 0 stop blocks)
        pieces_long = sym (length-map pieces heading_of_piece) ∙ ap length pieces_headed ∙ length-map (pieces_from 0 stop blocks) heading_of_piece

        -- the piece of a reader is that of the block
        piece_is : (place : ℕ) (piece other : Piece) → slice_get pieces place ≡ Some piece → slice_get (pieces_from 0 stop blocks) place ≡ Some other → piece ≡ other
        piece_is place piece other at there =
            let within = slice_get_within pieces place piece at in
            let reader = reader_at place within in
            let many = yielded.as_many in
            let read_many = read.as_many in
            let heads_many = length-map heads heading_of in
            let heading = get-within (map heading_of heads) place (omega (arith, within, many, read_many)) in
            let came = text_of_piece remaining (back place) heading.0 reader.0 piece (read.each place heading.0 reader.0 heading.1 reader.1) tell (yielded.each place reader.0 piece reader.1 at) in
            let is = gives place came.0 (omega (arith, within, many, read_many, heads_many, size)) came.1 in
            let told = run_told piece.first is.from piece.collection (collection_of stop (slice_range texts is.from is.to)) came.0 came.2 is.of_block in
            let begins : slice_get (bounds_from 0 blocks) place ≡ Some is.from = ap (λ (l : List ℕ). slice_get l place) (sym bounds_are) ∙ is.begins in
            let ends : slice_get (bounds_from 0 blocks) (place + 1) ≡ Some is.to = ap (λ (l : List ℕ). slice_get l (place + 1)) (sym bounds_are) ∙ is.ends in
            let same = piece_between [] 0 stop blocks refl place is.from is.to other begins ends there in
            (λ i. record { first = told.0 i; collection = told.1 i })
            ∙ ap (λ (l : List NamedText). record { first = is.from; collection = collection_of stop (slice_range l is.from is.to) }) (sym whole)
            ∙ sym same

        pieces_are : pieces ≡ pieces_from 0 stop blocks
        pieces_are =
            let many = pieces_long in
            same_at_each pieces (pieces_from 0 stop blocks) many
            (λ k within.
            let one = get-within pieces k (omega (arith, within, many)) in
            let other = get-within (pieces_from 0 stop blocks) k within in
            one.1 ∙ ap (λ (p : Piece). Some p) (piece_is k one.0 other.0 one.1 other.1) ∙ sym other.1)

        -- it is the collection of all texts
        joined_is : joined ≡ collection_of stop texts
        joined_is = whole_is stop blocks some joined (subst (λ (ps : List Piece). IsConcatenation ps joined) pieces_are is_joined) ∙ ap (collection_of stop) whole

    -- a collection like theirs was written
    pub alike_written : WritesReadBack remaining back (map heading_of heads) before now → WritesAlike (collection_of stop texts) before now
    alike_written writes =
        let of = writes.written in
        record { whole = of.whole; alike = joined_alike writes.readers writes.read of.pieces of.yielded of.whole of.concatenation; written = of.written }

    module _ (tell : TellBytes remaining) (gives : (place : ℕ) (bytes : List ℕ) → place + 1 < length bounds → back place bytes → IsTextOfBlock texts stop bounds place bytes) (size : length heads + 1 ≡ length bounds) where
      -- the collection of all texts was written
      pub exactly_written : WritesReadBack remaining back (map heading_of heads) before now → WritesIndexText before now (collection_of stop texts)
      exactly_written writes =
          let of = writes.written in
          subst (WritesIndexText before now) (joined_is writes.readers writes.read of.pieces of.yielded of.whole of.concatenation tell gives size) of.written

      -- or a prefix of its index text
      pub own_left : (if_whole : Type 0) → LeavesReadBackPart remaining back (map heading_of heads) before now if_whole → LeavesOwnPart (collection_of stop texts) before now if_whole
      own_left if_whole (inl keeps) = inl keeps
      own_left if_whole (inr part) =
          let of = part.written in
          let is = joined_is part.readers part.read of.pieces of.yielded of.whole of.concatenation tell gives size in
          inr (own_part before now (collection_of stop texts) of.whole of.text if_whole if_whole is of.of_whole (λ cut. cut) of.gained)
