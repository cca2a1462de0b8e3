-- The head of a run text, part behind part.
use Rattle.std.proofs.Common.{◌≡◌, ℕ, zero, suc, ◌+◌, ◌^◌, ◌<◌, ◌≤◌, List, [], ◌++◌, Option, Some, length, take, get_or, All, sym, ap, ap₂, ◌∙◌, subst, arith, append_assoc, append-nil}
use Rattle.std.proofs.KnownBytes.{Consumes-trans}
use Rattle.std.proofs.lemmas.List.{take_more, take_all, nil_from_length, length-take}
use Rattle.std.proofs.lemmas.List.Elements.{All-get_or, All-from_get_or}
use Rattle.std.proofs.lemmas.List.Sums.{sum_by_push, sum_by-take-le}
use Rattle.std.specs.Int.{to_le_bytes, w32}
use Rattle.std.specs.Io.KnownBytes.{Consumes}
use Rattle.std.specs.List.{flat_map, sum_by}
use Rattle.std.specs.Prelude.{codes}
use Rattle.ix_vbyte.specs.Code.{code_of}
use Rattle.ix_text.specs.Collections.{IsName}
use Rattle.ix_text.specs.Parts.{DocumentRow, row_bytes}
use Rattle.ix_run_text.specs.Heads.{Heading}
use Rattle.ix_run_text.specs.Pieces.{EachFits, RowFits}
use Rattle.ix_run_text.specs.RunText.{heading_bytes, head_bytes, stop_bytes}

-- ---- rows that fit one another

abbrev tokens_of : DocumentRow → ℕ
tokens_of row = row.tokens

one_more : (rows : List DocumentRow) (n : ℕ) (none : DocumentRow) → n < length rows → sum_by tokens_of (take n rows) + (get_or rows n none).tokens ≡ sum_by tokens_of (take (n + 1) rows)
one_more rows n none lt = sym (ap (sum_by tokens_of) (take_more rows n none lt) ∙ sum_by_push tokens_of (take n rows) (get_or rows n none))

pub fits_from_rows : (rows : List DocumentRow) → All (λ row. IsName row.name) rows → sum_by (λ row. row.tokens) rows ≤ 2 ^ 28 → EachFits RowFits rows
fits_from_rows rows names few n none lt = record {
  name = All-get_or (λ row. IsName row.name) rows n none lt names;
  few = omega (arith, one_more rows n none lt, sum_by-take-le tokens_of rows (n + 1));
}

pub names_from_fits : (rows : List DocumentRow) → EachFits RowFits rows → All (λ row. IsName row.name) rows
names_from_fits rows fits =
    let none : DocumentRow = record { name = []; tokens = 0 } in
    All-from_get_or (λ row. IsName row.name) rows none (λ n lt. (fits n none lt).name)

sum_by-zero : (rows : List DocumentRow) → sum_by tokens_of (take 0 rows) ≡ 0
sum_by-zero rows = ap (sum_by tokens_of) (nil_from_length (take 0 rows) (omega (arith, length-take 0 rows)))

few_up_to : (rows : List DocumentRow) → EachFits RowFits rows → (n : ℕ) → n ≤ length rows → sum_by tokens_of (take n rows) ≤ 2 ^ 28
few_up_to rows fits zero le = omega (arith, sum_by-zero rows)
few_up_to rows fits (suc n) le =
    let none : DocumentRow = record { name = []; tokens = 0 } in
    let more = one_more rows n none (omega arith) in
    let few : sum_by tokens_of (take n rows) + (get_or rows n none).tokens ≤ 2 ^ 28 = (fits n none (omega arith)).few in
    let place : n + 1 ≡ suc n = omega arith in
    let same = ap (λ (k : ℕ). sum_by tokens_of (take k rows)) place in
    omega arith

pub few_from_fits : (rows : List DocumentRow) → EachFits RowFits rows → sum_by (λ row. row.tokens) rows ≤ 2 ^ 28
few_from_fits rows fits = subst (λ (xs : List DocumentRow). sum_by tokens_of xs ≤ 2 ^ 28) (take_all (length rows) rows (omega arith)) (few_up_to rows fits (length rows) (omega arith))

-- ---- the parts of the head

-- what stands behind the magic, behind the first number, behind the second, and behind the stop terms
abbrev pub after_magic : Heading → List ℕ → List ℕ
after_magic heading rest = to_le_bytes w32 heading.first ++ (to_le_bytes w32 (length heading.rows) ++ (stop_bytes heading.stop ++ (flat_map (row_bytes code_of) heading.rows ++ rest)))

abbrev pub after_first : Heading → List ℕ → List ℕ
after_first heading rest = to_le_bytes w32 (length heading.rows) ++ (stop_bytes heading.stop ++ (flat_map (row_bytes code_of) heading.rows ++ rest))

abbrev pub after_numbers : Heading → List ℕ → List ℕ
after_numbers heading rest = stop_bytes heading.stop ++ (flat_map (row_bytes code_of) heading.rows ++ rest)

abbrev pub after_stop : Heading → List ℕ → List ℕ
after_stop heading rest = flat_map (row_bytes code_of) heading.rows ++ rest

head_parts : (heading : Heading) (rest : List ℕ) → heading_bytes heading ++ rest ≡ codes "PIIXRUN1" ++ after_magic heading rest
unfolding head_bytes
head_parts heading rest = simp append_assoc

pub known_parts : (a : Option (List ℕ)) (heading : Heading) (rest : List ℕ) → a ≡ Some (heading_bytes heading ++ rest) → a ≡ Some (codes "PIIXRUN1" ++ after_magic heading rest)
known_parts a heading rest e = e ∙ ap (λ (bytes : List ℕ). Some bytes) (head_parts heading rest)

pub head_taken : (a b c d e f : Option (List ℕ)) (heading : Heading) → Consumes a b (codes "PIIXRUN1") → Consumes b c (to_le_bytes w32 heading.first) → Consumes c d (to_le_bytes w32 (length heading.rows))
    → Consumes d e (stop_bytes heading.stop) → Consumes e f (flat_map (row_bytes code_of) heading.rows) → Consumes a f (heading_bytes heading)
head_taken a b c d e f heading one two three four five =
    let stop = stop_bytes heading.stop in
    let rows = flat_map (row_bytes code_of) heading.rows in
    let count = to_le_bytes w32 (length heading.rows) in
    let first = to_le_bytes w32 heading.first in
    let whole = Consumes-trans a b f (codes "PIIXRUN1") (first ++ (count ++ (stop ++ rows))) one
    (Consumes-trans b c f first (count ++ (stop ++ rows)) two (Consumes-trans c d f count (stop ++ rows) three (Consumes-trans d e f stop rows four five))) in
    let parts : codes "PIIXRUN1" ++ (first ++ (count ++ (stop ++ rows))) ≡ heading_bytes heading =
    ap (λ (xs : List ℕ). codes "PIIXRUN1" ++ (first ++ (count ++ (stop ++ xs)))) (sym (append-nil rows)) ∙ sym (head_parts heading []) ∙ append-nil (heading_bytes heading) in
    subst (Consumes a f) parts whole

pub same_heading : (first : ℕ) (stop : List (List ℕ)) (rows : List DocumentRow) (heading : Heading) → first ≡ heading.first → stop ≡ heading.stop → rows ≡ heading.rows
    → (let made : Heading = record { first = first; stop = stop; rows = rows } in made ≡ heading)
same_heading first stop rows heading one two three =
    ap (λ (n : ℕ). let made : Heading = record { first = n; stop = stop; rows = rows } in made) one
    ∙ ap₂ (λ (xs : List (List ℕ)) (ys : List DocumentRow). let made : Heading = record { first = heading.first; stop = xs; rows = ys } in made) two three
