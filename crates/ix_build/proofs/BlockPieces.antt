-- The pieces that consecutive blocks of texts are, their headings, and what these cover.
use Rattle.std.proofs.Common.{◌≡◌, ℕ, ◌+◌, ◌<◌, ◌≤◌, ◌^◌, List, [], ◌∷◌, ◌++◌, map, length, All, refl, sym, ap, subst, ◌∙◌, inl, inr, arith, length-append}
use Rattle.std.specs.Prelude.{slice_get, flat_map, sum_by, option_map}
use Rattle.std.proofs.lemmas.Bool.{cases_lt}
use Rattle.std.proofs.lemmas.List.{length-map, map-append}
use Rattle.std.proofs.lemmas.List.Elements.{All-head, All-cons, All-nil, All-map, All-weaker, All-contains}
use Rattle.std.proofs.lemmas.List.Sums.{sum_by-cons, sum_by-append}
use Rattle.std.proofs.lemmas.Option.{slice_get-map}
use Rattle.ix_text.specs.Collections.{Collection, Document, NamedText, collection_of, token_total}
use Rattle.ix_text.specs.Parts.{DocumentRow, row_of}
use Rattle.ix_text.proofs.PartsLawful.{sum_by-map}
use Rattle.ix_run.specs.Heads.{Heading}
use Rattle.ix_merge.specs.Covers.{Cover, IsGap, IsOverlap}
use Rattle.ix_merge.specs.Headings.{AreLaid, first_of, rows_of}
use Rattle.ix_merge.specs.Pieces.{Piece, IsConcatenation, heading_of_piece}
use Rattle.ix_merge.specs.Refusals.{AreTooLarge, DifferInStop}
use Rattle.ix_merge.specs.Rows.{tokens_in, tokens_under}
use Rattle.ix_merge.proofs.Covering.{documents_under, laid_cover}
use Rattle.ix_build.specs.RunPieces.{pieces_from}
use Rattle.ix_build.proofs.BlockLemmas.{all_in}
use Rattle.ix_build.proofs.Consecutive.{AreConsecutive, StandsIn, are_all}

-- ---- the collection of texts one after another

pub stop_of : (stop : List (List ℕ)) (texts : List NamedText) → (collection_of stop texts).stop ≡ stop
unfolding collection_of
stop_of stop texts = refl

documents_none : (stop : List (List ℕ)) → (collection_of stop []).documents ≡ []
unfolding collection_of
documents_none stop = refl

documents_joined : (stop : List (List ℕ)) (xs ys : List NamedText) → (collection_of stop (xs ++ ys)).documents ≡ (collection_of stop xs).documents ++ (collection_of stop ys).documents
unfolding collection_of
documents_joined stop xs ys = map-append _ xs ys

pub documents_counted : (stop : List (List ℕ)) (texts : List NamedText) → length (collection_of stop texts).documents ≡ length texts
unfolding collection_of
documents_counted stop texts = length-map texts _

-- ---- the pieces of blocks

abbrev pub documents_of : Piece → List Document
documents_of piece = piece.collection.documents

abbrev pub first_in : Piece → ℕ
first_in piece = piece.first

abbrev pub headings_from : ℕ → List (List ℕ) → List (List NamedText) → List Heading
headings_from first stop blocks = map heading_of_piece (pieces_from first stop blocks)

documents_flat : (first : ℕ) (stop : List (List ℕ)) (blocks : List (List NamedText)) → flat_map documents_of (pieces_from first stop blocks) ≡ (collection_of stop (all_in blocks)).documents
documents_flat first stop [] = sym (documents_none stop)
documents_flat first stop (block ∷ blocks) =
    ap (λ (l : List Document). (collection_of stop block).documents ++ l) (documents_flat (first + length block) stop blocks)
    ∙ sym (documents_joined stop block (all_in blocks))

rows_flat : (first : ℕ) (stop : List (List ℕ)) (blocks : List (List NamedText)) → flat_map rows_of (headings_from first stop blocks) ≡ map row_of (collection_of stop (all_in blocks)).documents
rows_flat first stop [] = ap (map row_of) (sym (documents_none stop))
rows_flat first stop (block ∷ blocks) =
    ap (λ (l : List DocumentRow). map row_of (collection_of stop block).documents ++ l) (rows_flat (first + length block) stop blocks)
    ∙ sym (map-append row_of (collection_of stop block).documents (collection_of stop (all_in blocks)).documents)
    ∙ ap (map row_of) (sym (documents_joined stop block (all_in blocks)))

consecutive : (first : ℕ) (stop : List (List ℕ)) (blocks : List (List NamedText)) → AreConsecutive first_in documents_of first (pieces_from first stop blocks)
consecutive first stop [] = tt
consecutive first stop (block ∷ blocks) =
    let P : ℕ → Type 0 = λ count. AreConsecutive first_in documents_of (first + count) (pieces_from (first + length block) stop blocks) in
    (refl, subst P (sym (documents_counted stop block)) (consecutive (first + length block) stop blocks))

rows_counted : (stop : List (List ℕ)) (block : List NamedText) → length (map row_of (collection_of stop block).documents) ≡ length block
rows_counted stop block = length-map (collection_of stop block).documents row_of ∙ documents_counted stop block

laid : (first : ℕ) (stop : List (List ℕ)) (blocks : List (List NamedText)) → AreLaid first (headings_from first stop blocks)
laid first stop [] = tt
laid first stop (block ∷ blocks) =
    let P : ℕ → Type 0 = λ count. AreLaid (first + count) (headings_from (first + length block) stop blocks) in
    (refl, subst P (sym (rows_counted stop block)) (laid (first + length block) stop blocks))

laid_consecutive : (from : ℕ) (headings : List Heading) → AreLaid from headings → AreConsecutive first_of rows_of from headings
laid_consecutive from [] are = tt
laid_consecutive from (heading ∷ headings) are = (are.0, laid_consecutive (from + length heading.rows) headings are.1)

counted : (first : ℕ) (stop : List (List ℕ)) (blocks : List (List NamedText)) → documents_under (headings_from first stop blocks) ≡ length (all_in blocks)
counted first stop [] = refl
counted first stop (block ∷ blocks) =
    let here = rows_counted stop block in
    let rest = counted (first + length block) stop blocks in
    let more = sum_by-cons (λ (h : Heading). length h.rows) (heading_of_piece (record { first = first; collection = collection_of stop block })) (headings_from (first + length block) stop blocks) in
    let size = length-append block (all_in blocks) in
    omega (arith, here, rest, more, size)

-- ---- what they cover

-- consecutive blocks from 0 on cover the number of each text once, and no other
pub cover : (stop : List (List ℕ)) (blocks : List (List NamedText)) → Cover (headings_from 0 stop blocks) (length (all_in blocks))
cover stop blocks = subst (Cover (headings_from 0 stop blocks)) (counted 0 stop blocks) (laid_cover (headings_from 0 stop blocks) (laid 0 stop blocks))

-- headings cover the numbers below one count
one_count : (headings : List Heading) (n m : ℕ) → Cover headings n → Cover headings m → n ≡ m
one_count headings n m one other =
    elim (cases_lt n m) [
      | inl less ↦ let no = one.no_other n (omega arith) in let some = other.once n less in absurd (omega (arith, no, some))
      | inr high ↦ elim (cases_lt m n) [
        | inl less ↦ let no = other.no_other m (omega arith) in let some = one.once m less in absurd (omega (arith, no, some))
        | inr low ↦ omega (arith, high, low)
      ]
    ]

pub no_gap : (headings : List Heading) (count number : ℕ) → Cover headings count → IsGap headings number → ⊥
no_gap headings count number covered gap =
    elim (cases_lt gap.greater count) [
      | inl within ↦ let once = covered.once number (omega (arith, within, gap.behind)) in omega (arith, once, gap.none)
      | inr past ↦ let none = covered.no_other gap.greater past in omega (arith, none, gap.covered)
    ]

pub no_overlap : (headings : List Heading) (count number : ℕ) → Cover headings count → IsOverlap headings number → ⊥
no_overlap headings count number covered overlap =
    elim (cases_lt number count) [
      | inl within ↦ let once = covered.once number within in omega (arith, once, overlap.several)
      | inr past ↦ let none = covered.no_other number past in omega (arith, none, overlap.several)
    ]

have_stop : (first : ℕ) (stop : List (List ℕ)) (blocks : List (List NamedText)) → All (λ heading. heading.stop ≡ stop) (headings_from first stop blocks)
have_stop first stop [] = All-nil (λ (heading : Heading). heading.stop ≡ stop)
have_stop first stop (block ∷ blocks) =
    All-cons (λ (heading : Heading). heading.stop ≡ stop) (heading_of_piece (record { first = first; collection = collection_of stop block })) (headings_from (first + length block) stop blocks)
    (stop_of stop block) (have_stop (first + length block) stop blocks)

pub no_difference : (stop : List (List ℕ)) (blocks : List (List NamedText)) → DifferInStop (headings_from 0 stop blocks) → ⊥
no_difference stop blocks differ =
    let Same : Heading → Type 0 = λ heading. heading.stop ≡ stop in
    let headings = headings_from 0 stop blocks in
    let all = have_stop 0 stop blocks in
    differ.stops.differ
    (All-contains Same headings differ.stops.one all differ.stops.among ∙ sym (All-contains Same headings differ.stops.other all differ.stops.among_too))

tokens : (first : ℕ) (stop : List (List ℕ)) (blocks : List (List NamedText)) → tokens_under (headings_from first stop blocks) ≡ token_total (collection_of stop (all_in blocks))
tokens first stop [] = ap (λ (l : List Document). sum_by (λ d. length d.tokens) l) (sym (documents_none stop))
tokens first stop (block ∷ blocks) =
    let size : Document → ℕ = λ d. length d.tokens in
    let one = (collection_of stop block).documents in
    let others = (collection_of stop (all_in blocks)).documents in
    let here = sum_by-map (λ (row : DocumentRow). row.tokens) row_of one in
    let rest = tokens (first + length block) stop blocks in
    let more = sum_by-cons (λ (h : Heading). tokens_in h.rows) (heading_of_piece (record { first = first; collection = collection_of stop block })) (headings_from (first + length block) stop blocks) in
    let both = sum_by-append size one others in
    let joined = ap (λ (l : List Document). sum_by size l) (documents_joined stop block (all_in blocks)) in
    omega (arith, here, rest, more, both, joined)

pub not_too_large : (stop : List (List ℕ)) (blocks : List (List NamedText)) → token_total (collection_of stop (all_in blocks)) ≤ 2 ^ 28 → AreTooLarge (headings_from 0 stop blocks) → ⊥
not_too_large stop blocks few large = let all = tokens 0 stop blocks in omega (arith, all, few, large.many)

-- ---- their concatenation

module _ (stop : List (List ℕ)) (blocks : List (List NamedText)) (some : 0 < length blocks) where
  abbrev pieces : List Piece
  pieces = pieces_from 0 stop blocks

  abbrev headings : List Heading
  headings = headings_from 0 stop blocks

  same_stop : (others : List Heading) → others ≡ headings → (given : List (List ℕ)) → All (λ heading. heading.stop ≡ given) others → given ≡ stop
  same_stop others same given all = by blocks some (subst (All (λ heading. heading.stop ≡ given)) same all)
    where
      by : (bs : List (List NamedText)) → 0 < length bs → All (λ heading. heading.stop ≡ given) (headings_from 0 stop bs) → given ≡ stop
      by [] none h = absurd (omega (arith, none))
      by (b ∷ bs) one h = sym (All-head (λ (heading : Heading). heading.stop ≡ given) (heading_of_piece (record { first = 0; collection = collection_of stop b })) (headings_from (0 + length b) stop bs) h) ∙ stop_of stop b

  -- it is the collection of all the texts
  pub whole_is : (whole : Collection) → IsConcatenation pieces whole → whole ≡ collection_of stop (all_in blocks)
  whole_is whole joined =
      let count : length whole.documents ≡ length (all_in blocks) = one_count headings (length whole.documents) (length (all_in blocks)) joined.cover (cover stop blocks) in
      let flat = documents_flat 0 stop blocks in
      let long : length whole.documents ≡ length (flat_map documents_of pieces) = count ∙ sym (ap length flat ∙ documents_counted stop (all_in blocks)) in
      let documents : whole.documents ≡ (collection_of stop (all_in blocks)).documents = are_all first_in documents_of pieces whole.documents (consecutive 0 stop blocks) joined.placed long ∙ flat in
      let all : All (λ heading. heading.stop ≡ whole.stop) headings = All-map (λ (heading : Heading). heading.stop ≡ whole.stop) heading_of_piece pieces joined.stop in
      let terms : whole.stop ≡ (collection_of stop (all_in blocks)).stop = same_stop headings refl whole.stop all ∙ sym (stop_of stop (all_in blocks)) in
      λ i. record { stop = terms i; documents = documents i }

  -- that of pieces with the same headings has the same stop terms, names and token counts
  pub rows_are : (others : List Piece) → map heading_of_piece others ≡ headings → (whole : Collection) → IsConcatenation others whole
      → (whole.stop ≡ stop) × (map row_of whole.documents ≡ map row_of (collection_of stop (all_in blocks)).documents)
  rows_are others same whole joined =
      let theirs = map heading_of_piece others in
      let rows = map row_of whole.documents in
      let all : All (λ heading. heading.stop ≡ whole.stop) theirs = All-map (λ (heading : Heading). heading.stop ≡ whole.stop) heading_of_piece others joined.stop in
      let covered : Cover theirs (length (all_in blocks)) = subst (λ (hs : List Heading). Cover hs (length (all_in blocks))) (sym same) (cover stop blocks) in
      let count : length whole.documents ≡ length (all_in blocks) = one_count theirs (length whole.documents) (length (all_in blocks)) joined.cover covered in
      let flat : flat_map rows_of theirs ≡ map row_of (collection_of stop (all_in blocks)).documents = ap (flat_map rows_of) same ∙ rows_flat 0 stop blocks in
      let long : length rows ≡ length (flat_map rows_of theirs) =
      length-map whole.documents row_of ∙ count ∙ sym (ap length flat ∙ rows_counted stop (all_in blocks)) in
      let consecutive : AreConsecutive first_of rows_of 0 theirs = laid_consecutive 0 theirs (subst (AreLaid 0) (sym same) (laid 0 stop blocks)) in
      let stand : All (StandsIn first_of rows_of rows) theirs = All-map (StandsIn first_of rows_of rows) heading_of_piece others (All-weaker _ _ (stands whole) others joined.placed) in
      (same_stop theirs same whole.stop all, are_all first_of rows_of theirs rows consecutive stand long ∙ flat)
    where
      stands : (whole : Collection) (piece : Piece) → ((number : ℕ) → number < length piece.collection.documents → slice_get whole.documents (piece.first + number) ≡ slice_get piece.collection.documents number)
          → StandsIn first_of rows_of (map row_of whole.documents) (heading_of_piece piece)
      stands whole piece placed number within =
          slice_get-map row_of whole.documents (piece.first + number)
          ∙ ap (option_map row_of) (placed number (omega (arith, within, length-map piece.collection.documents row_of)))
          ∙ sym (slice_get-map row_of piece.collection.documents number)
