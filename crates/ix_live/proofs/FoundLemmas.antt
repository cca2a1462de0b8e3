-- What is found in one segment more.
use Rattle.std.proofs.Common.{◌≡◌, ℕ, ◌+◌, ◌<◌, ◌≤◌, List, [], ◌∷◌, ◌++◌, Some, None, map, length, refl, sym, ap, ap₂, ◌∙◌, subst, arith, length-append, take, get_or}
use Rattle.std.specs.Prelude.{Contains, Option}
use Rattle.std.proofs.lemmas.List.{append-nil, length-map, map-append, take_more}
use Rattle.std.proofs.lemmas.List.Concat.{flat_map-append}
use Rattle.std.proofs.lemmas.List.Folds.{length-flat_map-take}
use Rattle.ix_text.specs.Collections.{Document}
use Rattle.ix_text.specs.Parts.{DocumentRow, row_of}
use Rattle.ix_query.specs.Tree.{Tree}
use Rattle.ix_scan.specs.ScansWithout.{kept_from}
use Rattle.ix_scan.proofs.ScanLemmas.{scan_more}
use Rattle.ix_live.specs.declared.segment.Segment.{Segment}
use Rattle.ix_live.specs.Segments.{AreSegmentsOf, IsSegmentOf, joined, rows_at, rows_in}
use Rattle.ix_live.specs.StateScans.{IsStateScan}
use Rattle.ix_live.specs.Findings.{AreFound, FindsIn, is_kept, with_removed}
use Rattle.ix_live.proofs.Among.{kept_decides}
use Rattle.ix_live.proofs.Beginnings.{joined_push}
use Rattle.ix_live.proofs.TableLemmas.{last_apart}

-- a segment has a row for each of its documents
pub rows_of_documents : (stop : List (List ℕ)) (segment : Option Segment) (documents : List Document) → IsSegmentOf stop segment documents → rows_at segment ≡ map row_of documents
rows_of_documents stop None documents h = absurd h
rows_of_documents stop (Some segment) documents h = h.parts.rows

pub rows_of_all : (stop : List (List ℕ)) (segments : List (Option Segment)) (lists : List (List Document)) → AreSegmentsOf stop segments lists → rows_in segments ≡ map row_of (joined lists)
rows_of_all stop [] [] h = refl
rows_of_all stop [] (documents ∷ lists) h = absurd h
rows_of_all stop (segment ∷ segments) [] h = absurd h
rows_of_all stop (segment ∷ segments) (documents ∷ lists) h =
    ap₂ (λ (xs ys : List DocumentRow). xs ++ ys) (rows_of_documents stop segment documents h.0) (rows_of_all stop segments lists h.1)
    ∙ sym (map-append row_of documents (joined lists))

-- what is found in the last segment is behind what is found in the others
pub found_more : (segments : List (Option Segment)) (segment : Option Segment) (first : ℕ) (removed : List ℕ) (query : Tree) (before after : List ℕ) → first ≡ length (rows_in segments)
    → AreFound segments removed query before → FindsIn segment first removed query before after → AreFound (segments ++ segment ∷ []) removed query after
found_more segments segment first removed query before after from found finds stop lists are =
    let apart = last_apart stop segments segment lists are in
    let xs = joined apart.earlier in
    let later : ℕ → List ℕ = λ k. kept_from (is_kept removed) k finds.numbers in
    let size : first ≡ length xs = from ∙ ap length (rows_of_all stop segments apart.earlier apart.of_earlier) ∙ length-map xs row_of in
    let all : joined lists ≡ xs ++ apart.last = ap joined apart.parted ∙ joined_push apart.earlier apart.last in
    let scanned : IsStateScan (with_removed stop (xs ++ apart.last) removed) query (before ++ later (length xs)) =
    scan_more stop xs apart.last (Contains removed) (is_kept removed) query before finds.numbers (λ k within. kept_decides removed (length xs + k)) (found stop apart.earlier apart.of_earlier) (finds.scanned stop apart.last apart.of_last) in
    let after_is : before ++ later (length xs) ≡ after = ap (λ (k : ℕ). before ++ later k) (sym size) ∙ sym finds.gained in
    subst (λ (numbers : List ℕ). IsStateScan (with_removed stop (joined lists) removed) query numbers) after_is
    (subst (λ (documents : List Document). IsStateScan (with_removed stop documents removed) query (before ++ later (length xs))) (sym all) scanned)

-- ---- at a place of the list

pub few_at : (segments : List (Option Segment)) (first i : ℕ) (place : Option Segment) → i < length segments → place ≡ get_or segments i place → first ≡ length (rows_in (take i segments))
    → first + length (rows_at place) ≤ length (rows_in segments)
few_at segments first i place within at from =
    let all = length-flat_map-take rows_at segments i place within in
    omega (arith, ap (λ (p : Option Segment). length (rows_at p)) at)

take_place : (segments : List (Option Segment)) (i : ℕ) (place : Option Segment) → i < length segments → place ≡ get_or segments i place → take (i + 1) segments ≡ take i segments ++ place ∷ []
take_place segments i place within at = take_more segments i place within ∙ ap (λ (p : Option Segment). take i segments ++ p ∷ []) (sym at)

pub first_more : (segments : List (Option Segment)) (first count i : ℕ) (place : Option Segment) → i < length segments → place ≡ get_or segments i place → first ≡ length (rows_in (take i segments))
    → count ≡ length (rows_at place) → first + count ≡ length (rows_in (take (i + 1) segments))
first_more segments first count i place within at from is =
    let all : rows_in (take (i + 1) segments) ≡ rows_in (take i segments) ++ rows_at place =
    ap rows_in (take_place segments i place within at) ∙ flat_map-append rows_at (take i segments) (place ∷ [])
    ∙ ap (λ (l : List DocumentRow). rows_in (take i segments) ++ l) (append-nil (rows_at place)) in
    omega (arith, ap length all, length-append (rows_in (take i segments)) (rows_at place))

pub found_at : (segments : List (Option Segment)) (first i : ℕ) (place : Option Segment) (removed : List ℕ) (query : Tree) (before after : List ℕ) → i < length segments → place ≡ get_or segments i place
    → first ≡ length (rows_in (take i segments)) → AreFound (take i segments) removed query before → FindsIn place first removed query before after → AreFound (take (i + 1) segments) removed query after
found_at segments first i place removed query before after within at from found finds =
    subst (λ (l : List (Option Segment)). AreFound l removed query after) (sym (take_place segments i place within at))
    (found_more (take i segments) place first removed query before after from found finds)
