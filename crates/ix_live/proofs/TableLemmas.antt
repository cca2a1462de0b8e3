-- A new segment is merged with the last ones of a table.
use Rattle.std.proofs.Common.{◌≡◌, ◌≢◌, IfOk, Result, Ok, Err, ℕ, suc, ◌+◌, ◌≤◌, List, [], ◌∷◌, ◌++◌, take, drop, length, refl, sym, ap, ◌∙◌, subst, arith, append_assoc, length-append}
use Rattle.std.specs.Prelude.{Option, Some, None}
use Rattle.std.proofs.lemmas.List.{append-nil, drop-append-le, drop_all, length-map, map_push, take-append-le, take_all}
use Rattle.std.proofs.lemmas.List.Concat.{flat_map-append}
use Rattle.ix_text.specs.Collections.{Document}
use Rattle.ix_text.specs.Parts.{row_of}
use Rattle.ix_file.specs.Opened.{IsIndexOf, Opened}
use Rattle.ix_file.specs.Sections.{FrontCoded}
use Rattle.ix_live.specs.declared.segment.Segment.{Segment}
use Rattle.ix_live.specs.Pieces.{Piece, piece_at, pieces_in, with_piece}
use Rattle.ix_scan.specs.ScansWithout.{of_documents}
use Rattle.ix_live.specs.Segments.{AreSegmentsOf, IsSegmentOf, joined, rows_at, rows_in}
use Rattle.ix_live.specs.Tables.{AreIndexed, Merges}
use Rattle.ix_live.proofs.Beginnings.{joined_push}
use Rattle.ix_live.proofs.Falling.{with_alike, with_apart}

-- as many lists as segments
pub as_many : (stop : List (List ℕ)) (segments : List (Option Segment)) (lists : List (List Document)) → AreSegmentsOf stop segments lists → length segments ≡ length lists
as_many stop [] [] are = refl
as_many stop [] (l ∷ ls) are = absurd are
as_many stop (s ∷ ss) [] are = absurd are
as_many stop (s ∷ ss) (l ∷ ls) are = ap suc (as_many stop ss ls are.1)

-- the lists of segments, and that of one behind them
pub record LastApart (stop : List (List ℕ)) (segments : List (Option Segment)) (segment : Option Segment) (lists : List (List Document)) : Type 0 where
  pub earlier : List (List Document)
  pub last : List Document
  pub parted : lists ≡ earlier ++ last ∷ []
  pub of_earlier : AreSegmentsOf stop segments earlier
  pub of_last : IsSegmentOf stop segment last

pub last_apart : (stop : List (List ℕ)) (segments : List (Option Segment)) (segment : Option Segment) (lists : List (List Document)) → AreSegmentsOf stop (segments ++ segment ∷ []) lists → LastApart stop segments segment lists
last_apart stop [] segment [] are = absurd are
last_apart stop [] segment (l ∷ []) are = record { earlier = []; last = l; parted = refl; of_earlier = tt; of_last = are.0 }
last_apart stop [] segment (l ∷ m ∷ ls) are = absurd are.1
last_apart stop (s ∷ ss) segment [] are = absurd are
last_apart stop (s ∷ ss) segment (l ∷ ls) are =
    let rest = last_apart stop ss segment ls are.1 in
    record { earlier = l ∷ rest.earlier; last = rest.last; parted = ap (λ (k : List (List Document)). l ∷ k) rest.parted; of_earlier = (are.0, rest.of_earlier); of_last = rest.of_last }

-- a segment of some documents is one
pub last_is_some : (segments : List (Option Segment)) (opened : Opened) → AreIndexed (segments ++ None ∷ []) opened → ⊥
last_is_some segments opened indexed = (last_apart indexed.stop segments None indexed.lists indexed.of_lists).of_last

pub rows_push : (segments : List (Option Segment)) (last : Segment) → length (rows_in (segments ++ Some last ∷ [])) ≡ length (rows_in segments) + length last.volume.parts.rows
rows_push segments last =
    omega (arith, ap length (flat_map-append rows_at segments (Some last ∷ [])), ap length (append-nil last.volume.parts.rows), length-append (rows_in segments) (rows_in (Some last ∷ [])))

-- how many documents an index has
pub rows_counted : (opened : Opened) (stop : List (List ℕ)) (documents : List Document) → IsIndexOf opened FrontCoded (of_documents stop documents) → length opened.parts.rows ≡ length documents
rows_counted opened stop documents is = ap length is.parts.rows ∙ length-map documents row_of

pub merges_none : (segments : List (Option Segment)) (left : ℕ) (opened : Opened) → left ≡ length segments → Merges segments left opened opened
merges_none segments left opened is stop lists documents are of =
    let none : drop left lists ≡ [] = drop_all left lists (omega (arith, is, as_many stop segments lists are)) in
    subst (λ (l : List (List Document)). IsIndexOf opened FrontCoded (of_documents stop (joined l ++ documents))) (sym none) of

-- the last segment and an index were merged
module _ (segments : List (Option Segment)) (last : Segment) (opened merged : Opened)
    (joins : (stop : List (List ℕ)) (first second : List Document) → IsIndexOf last.volume FrontCoded (of_documents stop first) → IsIndexOf opened FrontCoded (of_documents stop second) → IsIndexOf merged FrontCoded (of_documents stop (first ++ second))) where
  pub merges_last : (left : ℕ) (whole : Opened) → left ≤ length segments → Merges segments left merged whole → Merges (segments ++ Some last ∷ []) left opened whole
  merges_last left whole within merges stop lists documents are of =
      let here = last_apart stop segments (Some last) lists are in
      let all = merges stop here.earlier (here.last ++ documents) here.of_earlier (joins stop here.last documents here.of_last of) in
      let behind : drop left lists ≡ drop left here.earlier ++ here.last ∷ [] =
      ap (drop left) here.parted ∙ drop-append-le left here.earlier (here.last ∷ []) (omega (arith, within, as_many stop segments here.earlier here.of_earlier)) in
      let same : joined (drop left here.earlier) ++ (here.last ++ documents) ≡ joined (drop left lists) ++ documents =
      sym (append_assoc (joined (drop left here.earlier)) here.last documents) ∙ ap (λ (l : List Document). l ++ documents) (sym (ap joined behind ∙ joined_push (drop left here.earlier) here.last)) in
      subst (λ (l : List Document). IsIndexOf whole FrontCoded (of_documents stop l)) same all

  pub indexed_last : AreIndexed (segments ++ Some last ∷ []) opened → AreIndexed segments merged
  indexed_last indexed =
      let here = last_apart indexed.stop segments (Some last) indexed.lists indexed.of_lists in
      record { stop = indexed.stop; lists = here.earlier; documents = here.last ++ indexed.documents; of_lists = here.of_earlier; of_documents = joins indexed.stop here.last indexed.documents here.of_last indexed.of_documents }

  pub rows_merged : AreIndexed (segments ++ Some last ∷ []) opened → length merged.parts.rows ≡ length last.volume.parts.rows + length opened.parts.rows
  rows_merged indexed =
      let here = last_apart indexed.stop segments (Some last) indexed.lists indexed.of_lists in
      let whole = joins indexed.stop here.last indexed.documents here.of_last indexed.of_documents in
      omega (
        arith,
        rows_counted last.volume indexed.stop here.last here.of_last,
        rows_counted opened indexed.stop indexed.documents indexed.of_documents,
        rows_counted merged indexed.stop (here.last ++ indexed.documents) whole,
        length-append here.last indexed.documents,
      )

-- ---- the pieces of a table, and a new one

pub pieces_alone : (segments : List (Option Segment)) (piece : Piece) → length segments ≡ 0 → take 0 (pieces_in segments) ++ piece ∷ [] ≡ with_piece (pieces_in segments) piece
pieces_alone [] piece none = refl
pieces_alone (s ∷ ss) piece none = absurd (omega (arith, none))

module _ (segments earlier : List (Option Segment)) (last : Segment) (parted : segments ≡ earlier ++ Some last ∷ []) (piece : Piece) where
  pieces_parted : pieces_in segments ≡ pieces_in earlier ++ piece_at (Some last) ∷ []
  pieces_parted = ap pieces_in parted ∙ map_push piece_at earlier (Some last)

  pub pieces_apart : last.generation ≢ piece.generation → take (length segments) (pieces_in segments) ++ piece ∷ [] ≡ with_piece (pieces_in segments) piece
  pieces_apart apart =
      ap (λ (l : List Piece). l ++ piece ∷ []) (take_all (length segments) (pieces_in segments) (omega (arith, length-map segments piece_at)) ∙ pieces_parted)
      ∙ with_apart (pieces_in earlier) (piece_at (Some last)) piece apart ∙ ap (λ (l : List Piece). with_piece l piece) (sym pieces_parted)

  pub pieces_alike : (left rows : ℕ) (new : Piece) → last.generation ≡ piece.generation → left ≤ length earlier → rows ≡ length last.volume.parts.rows + piece.documents
      → take left (pieces_in earlier) ++ new ∷ [] ≡ with_piece (pieces_in earlier) (record { generation = piece.generation + 1; documents = rows }) → take left (pieces_in segments) ++ new ∷ [] ≡ with_piece (pieces_in segments) piece
  pieces_alike left rows new alike within counted is =
      ap (λ (l : List Piece). l ++ new ∷ []) (ap (take left) pieces_parted ∙ take-append-le left (pieces_in earlier) (piece_at (Some last) ∷ []) (omega (arith, within, length-map earlier piece_at)))
      ∙ is ∙ ap (λ (n : ℕ). with_piece (pieces_in earlier) (record { generation = piece.generation + 1; documents = n })) counted
      ∙ with_alike (pieces_in earlier) (piece_at (Some last)) piece alike ∙ ap (λ (l : List Piece). with_piece l piece) (sym pieces_parted)

-- two facts of what went well make a third
pub ok_of_both : {T E : Type 0} (result : Result T E) (P Q R : T → Type 0) → ((value : T) → P value → Q value → R value) → IfOk result P → IfOk result Q → IfOk result R
ok_of_both (Ok value) P Q R make one other = make value one other
ok_of_both (Err error) P Q R make one other = tt
