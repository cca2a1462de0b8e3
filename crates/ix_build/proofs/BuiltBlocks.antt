-- Runs of the blocks of texts: they are of one list of pieces, whose merge is told of the collection of all texts.
use Rattle.std.proofs.Common.{◌≡◌, ℕ, zero, suc, ◌+◌, ◌-◌, ◌<◌, ◌≤◌, ◌^◌, List, [], ◌∷◌, ◌++◌, map, length, take, drop, Option, refl, sym, ap, subst, ◌∙◌, inl, inr, arith, length-append, add-one}
use Rattle.std.specs.Prelude.{Some, slice_get, slice_range}
use Rattle.std.proofs.lemmas.List.{append_assoc, drop_at, length-map, take_at}
use Rattle.std.proofs.lemmas.Option.{none-some, same_Some}
use Rattle.ix_board.proofs.Endings.{get-map}
use Rattle.ix_board.proofs.SliceGets.{get-within}
use Rattle.ix_text.specs.Collections.{Collection, NamedText, collection_of, token_total}
use Rattle.ix_text.specs.Parts.{row_of}
use Rattle.ix_merge.specs.Endings.{WritesIndexText}
use Rattle.ix_run.specs.Heads.{Heading}
use Rattle.ix_run.specs.Runs.{RunValue, IsRunOf, run_bytes}
use Rattle.ix_run.specs.RunSources.{heading_shown}
use Rattle.ix_run.proofs.RunSizes.{run_text}
use Rattle.ix_run.proofs.RunTold.{run_told}
use Rattle.ix_merge.specs.Pieces.{IsConcatenation, LeavesFront, Piece, heading_of_piece}
use Rattle.ix_merge.specs.Refusals.{IsRefusal}
use Rattle.ix_merge.specs.declared.merge_error.MergeError.{MergeError}
use Rattle.ix_merge.specs.declared.merge_error.MergeError.TheVariants.{Gap, Overlap, StopDiffers, Source, TooLarge, Write, Memory}
use Rattle.ix_build.specs.AlikeFronts.{LeavesAlikeFront}
use Rattle.ix_build.specs.Blocks.{bounds_from}
use Rattle.ix_build.specs.BlockRuns.{IsRunOfBlock}
use Rattle.ix_build.specs.BuildErrors.{MayComeOfMerge}
use Rattle.ix_build.specs.Built.{headings_of}
use Rattle.ix_build.specs.OwnParts.{LeavesOwnPart}
use Rattle.ix_build.specs.RunPieces.{AreRunsOf, LeavesRunsPart, WritesRuns, pieces_from}
use Rattle.ix_build.proofs.BlockLemmas.{all_in}
use Rattle.ix_build.proofs.BlockPieces.{cover, headings_from, no_difference, no_gap, no_overlap, not_too_large, rows_are, stop_of, whole_is}
use Rattle.ix_build.proofs.Consecutive.{same_at_each}
use Rattle.ix_build.proofs.OwnPartLemmas.{own_part}

-- ---- runs and pieces

-- a run is of one collection, counted from one number
run_of_one : (run : RunValue) (one other : Piece) → IsRunOf run one.first one.collection → IsRunOf run other.first other.collection → one ≡ other
run_of_one run one other is also =
    let same = run_told one.first other.first one.collection other.collection (run_bytes run) (run_text run one.first one.collection is) (run_text run other.first other.collection also) in
    λ i. record { first = same.0 i; collection = same.1 i }

-- runs are of one list of pieces
pieces_of_one : (runs : List RunValue) (ones others : List Piece) → AreRunsOf runs ones → AreRunsOf runs others → ones ≡ others
pieces_of_one runs ones others is also =
    let many = is.as_many in
    let as_many = also.as_many in
    same_at_each ones others (omega (arith, many, as_many))
    (λ k within.
    let one = get-within ones k (omega (arith, within, many, as_many)) in
    let other = get-within others k within in
    let run = get-within runs k (omega (arith, within, as_many)) in
    one.1 ∙ ap (λ (p : Piece). Some p) (run_of_one run.0 one.0 other.0 (is.each k run.0 one.0 run.1 one.1) (also.each k run.0 other.0 run.1 other.1)) ∙ sym other.1)

-- a run has the heading of its piece
heading_of_run : (run : RunValue) (piece : Piece) → IsRunOf run piece.first piece.collection → heading_shown run ≡ heading_of_piece piece
heading_of_run run piece is =
    ap heading_shown is.held ∙ (λ i. record { first = piece.first; stop = is.of_collection.stop i; rows = is.of_collection.rows i })

headings_of_runs : (runs : List RunValue) (pieces : List Piece) → AreRunsOf runs pieces → headings_of runs ≡ map heading_of_piece pieces
headings_of_runs runs pieces are =
    let many = are.as_many in
    same_at_each (headings_of runs) (map heading_of_piece pieces)
    (length-map runs heading_shown ∙ many ∙ sym (length-map pieces heading_of_piece))
    (λ k within.
    let inside : k < length pieces = omega (arith, within, length-map pieces heading_of_piece) in
    let piece = get-within pieces k inside in
    let run = get-within runs k (omega (arith, inside, many)) in
    get-map heading_shown runs k run.0 run.1 ∙ ap (λ (h : Heading). Some h) (heading_of_run run.0 piece.0 (are.each k run.0 piece.0 run.1 piece.1)) ∙ sym (get-map heading_of_piece pieces k piece.0 piece.1))

-- ---- blocks between bounds

bounds_head : (first : ℕ) (blocks : List (List NamedText)) → slice_get (bounds_from first blocks) 0 ≡ Some first
bounds_head first [] = refl
bounds_head first (block ∷ blocks) = refl

get_next : {A : Type 0} (x : A) (xs : List A) (place : ℕ) → slice_get (x ∷ xs) (place + 1) ≡ slice_get xs place
get_next x xs place = rw add-one refl

-- the piece of a block is what stands between its bounds
pub piece_between : (front : List NamedText) (first : ℕ) (stop : List (List ℕ)) (blocks : List (List NamedText)) → first ≡ length front
    → (place from to : ℕ) (piece : Piece) → slice_get (bounds_from first blocks) place ≡ Some from → slice_get (bounds_from first blocks) (place + 1) ≡ Some to → slice_get (pieces_from first stop blocks) place ≡ Some piece
    → piece ≡ record { first = from; collection = collection_of stop (slice_range (front ++ all_in blocks) from to) }
piece_between front first stop [] long place from to piece begins ends there = absurd (none-some piece there)
piece_between front first stop (block ∷ blocks) long zero from to piece begins ends there =
    let rest = bounds_from (first + length block) blocks in
    let is_from : first ≡ from = same_Some first from begins in
    let is_to : first + length block ≡ to = same_Some (first + length block) to (sym (bounds_head (first + length block) blocks) ∙ sym (get_next first rest zero) ∙ ends) in
    let is_piece = same_Some (record { first = first; collection = collection_of stop block }) piece there in
    let at : drop from (front ++ (block ++ all_in blocks)) ≡ block ++ all_in blocks = drop_at front (block ++ all_in blocks) from (omega (arith, long, is_from)) in
    let here : slice_range (front ++ (block ++ all_in blocks)) from to ≡ block =
    ap (take (to - from)) at ∙ take_at block (all_in blocks) (to - from) (omega (arith, is_from, is_to)) in
    sym is_piece ∙ (λ i. record { first = is_from i; collection = collection_of stop (sym here i) })
piece_between front first stop (block ∷ blocks) long (suc place) from to piece begins ends there =
    let rest = bounds_from (first + length block) blocks in
    let next : place + 1 ≡ suc place = omega arith in
    let more : first + length block ≡ length (front ++ block) = omega (arith, long, length-append front block) in
    let later = piece_between (front ++ block) (first + length block) stop blocks more place from to piece begins (ap (slice_get rest) next ∙ sym (get_next first rest (suc place)) ∙ ends) there in
    later ∙ ap (λ (l : List NamedText). record { first = from; collection = collection_of stop (slice_range l from to) }) (append_assoc front block (all_in blocks))

module _ (texts : List NamedText) (stop : List (List ℕ)) (bounds : List ℕ) (blocks : List (List NamedText))
    (whole : all_in blocks ≡ texts) (bounds_are : bounds ≡ bounds_from 0 blocks) (some : 0 < length blocks) where
  -- runs of all blocks are of their pieces
  pub runs_of_blocks : (runs : List RunValue) → length runs ≡ length blocks → ((place : ℕ) (run : RunValue) → slice_get runs place ≡ Some run → IsRunOfBlock texts stop bounds place run) → AreRunsOf runs (pieces_from 0 stop blocks)
  runs_of_blocks runs long each = record {
    as_many = long ∙ sym (pieces_counted 0 blocks);
    each = λ place run piece at there.
        let is = each place run at in
        let begins : slice_get (bounds_from 0 blocks) place ≡ Some is.from = ap (λ (l : List ℕ). slice_get l place) (sym bounds_are) ∙ is.begins in
        let ends : slice_get (bounds_from 0 blocks) (place + 1) ≡ Some is.to = ap (λ (l : List ℕ). slice_get l (place + 1)) (sym bounds_are) ∙ is.ends in
        let same = piece_between [] 0 stop blocks refl place is.from is.to piece begins ends there in
        let P : List NamedText → Type 0 = λ l. IsRunOf run is.from (collection_of stop (slice_range l is.from is.to)) in
        subst (λ (p : Piece). IsRunOf run p.first p.collection) (sym same) (subst P (sym whole) is.of_block);
  }
    where
      pieces_counted : (first : ℕ) (bs : List (List NamedText)) → length (pieces_from first stop bs) ≡ length bs
      pieces_counted first [] = refl
      pieces_counted first (b ∷ bs) = ap (λ (n : ℕ). suc n) (pieces_counted (first + length b) bs)

  module _ (runs : List RunValue) (before now : Option (List ℕ)) (are : AreRunsOf runs (pieces_from 0 stop blocks)) where
    -- the concatenation of pieces of which they are is the collection of all texts
    collection_is : (pieces : List Piece) (concatenation : Collection) → AreRunsOf runs pieces → IsConcatenation pieces concatenation → concatenation ≡ collection_of stop texts
    collection_is pieces concatenation of_pieces is =
        let same = pieces_of_one runs pieces (pieces_from 0 stop blocks) of_pieces are in
        whole_is stop blocks some concatenation (subst (λ (ps : List Piece). IsConcatenation ps concatenation) same is) ∙ ap (collection_of stop) whole

    -- what was written is its index text
    pub blocks_written : WritesRuns runs before now → WritesIndexText before now (collection_of stop texts)
    blocks_written writes = subst (WritesIndexText before now) (collection_is writes.pieces writes.whole writes.of_pieces writes.concatenation) writes.written

    -- and what an error left a prefix of it
    pub blocks_unfinished : (if_whole told : Type 0) → (if_whole → told) → LeavesRunsPart runs before now if_whole → LeavesOwnPart (collection_of stop texts) before now told
    blocks_unfinished if_whole told told_so (inl keeps) = inl keeps
    blocks_unfinished if_whole told told_so (inr part) =
        let is = collection_is part.pieces part.whole part.of_pieces part.concatenation in
        inr (own_part before now (collection_of stop texts) part.whole part.text if_whole told is part.of_whole told_so part.gained)

    pub headings_are : headings_of runs ≡ headings_from 0 stop blocks
    headings_are = headings_of_runs runs (pieces_from 0 stop blocks) are

    -- what a refused merge left is a front of the index text of a collection like it
    pub blocks_left : LeavesFront (headings_of runs) before now → LeavesAlikeFront (collection_of stop texts) before now
    blocks_left (inl keeps) = inl keeps
    blocks_left (inr front) =
        let rows = rows_are stop blocks some front.pieces (front.headed ∙ headings_are) front.whole front.concatenation in
        let P : List NamedText → Type 0 = λ l. map row_of front.whole.documents ≡ map row_of (collection_of stop l).documents in
        inr (record {
          whole = front.whole;
          alike = record { stop = rows.0 ∙ sym (stop_of stop texts); rows = subst P whole rows.1 };
          text = front.text;
          of_whole = front.of_whole;
          gained = front.gained;
        })

    -- a merge of them is not refused for what they are
    pub blocks_refused : {E : Type 0} → token_total (collection_of stop texts) ≤ 2 ^ 28 → (error : MergeError E) → IsRefusal (headings_of runs) error → MayComeOfMerge error
    blocks_refused {E} few error refusal = by error (subst (λ (hs : List Heading). IsRefusal hs error) headings_are refusal)
      where
        by : (e : MergeError E) → IsRefusal (headings_from 0 stop blocks) e → MayComeOfMerge e
        by (Gap number) gap = no_gap (headings_from 0 stop blocks) (length (all_in blocks)) number (cover stop blocks) gap
        by (Overlap number) overlap = no_overlap (headings_from 0 stop blocks) (length (all_in blocks)) number (cover stop blocks) overlap
        by StopDiffers differ = no_difference stop blocks differ
        by (Source place e) refused = tt
        by TooLarge large =
            let P : List NamedText → Type 0 = λ l. token_total (collection_of stop l) ≤ 2 ^ 28 in
            not_too_large stop blocks (subst P (sym whole) few) large
        by Write refused = tt
        by Memory refused = tt
