-- DOCS is read row by row.
use Rattle.std.proofs.Common.{◌≡◌, ℕ, ◌+◌, ◌-◌, ◌^◌, ◌<◌, ◌≤◌, List, [], ◌∷◌, ◌++◌, length, flat_map, take, drop, refl, sym, ap, ◌∙◌, subst, arith, length-append}
use Rattle.std.proofs.lemmas.List.{append_assoc, append-nil, take_at, drop_at}
use Rattle.std.proofs.lemmas.List.Elements.{All-nil, All-push, All-contains, Contains-push}
use Rattle.std.proofs.lemmas.List.Sums.{sum_by_push, sum_by-append}
use Rattle.std.specs.List.{sum_by, slice_range}
use Rattle.ix_text.specs.Collections.{IsName}
use Rattle.ix_text.specs.Parts.{DocumentRow, row_bytes}
use Rattle.ix_text.proofs.PartsLemmas.{same_row_fields}
use Rattle.ix_vbyte.specs.Code.{code_of}
use Rattle.ix_vbyte.specs.Texts.{counted}
use Rattle.ix_vbyte.proofs.Texts.{counted-apart, counted_number-apart}
use Rattle.ix_vbyte.proofs.Values.{some_code_byte}
use Rattle.ix_file.specs.OpenedRows.{AreRows}
use Rattle.ix_index_text.specs.Sections.{documents_section}
use Rattle.ix_file.proofs.Continuing.{AreApart, GoesOn, goes_on, has_next, read_more}
use Rattle.ix_file.proofs.StopReading.{All-front}

-- a part of a text, by what stands before it
pub part_at : (xs before part rest : List ℕ) (start : ℕ) → xs ≡ before ++ (part ++ rest) → start ≡ length before → slice_range xs start (start + length part) ≡ part
part_at xs before part rest start is at =
    let size : start + length part - start ≡ length part = omega arith in
    ap (λ n. take n (drop start xs)) size ∙ ap (λ ys. take (length part) ys) (ap (λ ys. drop start ys) is ∙ drop_at before (part ++ rest) start (sym at)) ∙ take_at part rest (length part) refl

pub rows_apart : AreApart (row_bytes code_of)
rows_apart row more xs ys same =
    let r = counted_number-apart row.name more.name row.tokens more.tokens xs ys same in
    (same_row_fields row more r.0 r.1, r.2)

pub some_row_byte : (row : DocumentRow) → 0 < length (row_bytes code_of row)
some_row_byte row = omega (arith, some_code_byte row.tokens, length-append (counted row.name) (code_of row.tokens))

abbrev pub tokens_of : List DocumentRow → ℕ
tokens_of rows = sum_by (λ row. row.tokens) rows

pub no_rows : AreRows []
no_rows = record { names = All-nil (λ row. IsName row.name); few_tokens = omega arith }

pub tokens_push : (rows : List DocumentRow) (row : DocumentRow) → tokens_of (rows ++ row ∷ []) ≡ tokens_of rows + row.tokens
tokens_push rows row = sum_by_push (λ (r : DocumentRow). r.tokens) rows row

pub rows_push : (rows : List DocumentRow) (row : DocumentRow) → AreRows rows → IsName row.name → tokens_of rows + row.tokens ≤ 2 ^ 28 → AreRows (rows ++ row ∷ [])
rows_push rows row are is few = record {
  names = All-push (λ (r : DocumentRow). IsName r.name) rows row are.names is;
  few_tokens = omega (arith, tokens_push rows row);
}

pub rows_front : (rows more : List DocumentRow) → AreRows (rows ++ more) → AreRows rows
rows_front rows more are = record {
  names = All-front (λ (r : DocumentRow). IsName r.name) rows more are.names;
  few_tokens = let few : tokens_of (rows ++ more) ≤ 2 ^ 28 = are.few_tokens in omega (arith, sum_by-append (λ (r : DocumentRow). r.tokens) rows more);
}

-- what the next row keeps
pub record MayBeNext (done : List DocumentRow) (row : DocumentRow) : Type 0 where
  pub name : IsName row.name
  pub few : tokens_of done + row.tokens ≤ 2 ^ 28

next_row : (done : List DocumentRow) (row : DocumentRow) → AreRows (done ++ row ∷ []) → MayBeNext done row
next_row done row are = record { name = All-contains (λ (r : DocumentRow). IsName r.name) (done ++ row ∷ []) row are.names (Contains-push done row); few = let few : tokens_of (done ++ row ∷ []) ≤ 2 ^ 28 = are.few_tokens in omega (arith, tokens_push done row) }

-- where no row may follow the ones that were read, the section is that of no rows
pub none_next : (section : List ℕ) (done : List DocumentRow) (left : List ℕ) → section ≡ documents_section done ++ left → 0 < length left
    → ((row : DocumentRow) (rest : List ℕ) → MayBeNext done row → left ≡ row_bytes code_of row ++ rest → ⊥)
    → (rows : List DocumentRow) → AreRows rows → section ≡ documents_section rows → ⊥
unfolding documents_section
none_next section done left e some refused rows are same =
    let next = has_next (row_bytes code_of) rows_apart some_row_byte done rows left (sym same ∙ e) some in
    refused next.next (flat_map (row_bytes code_of) next.more) (next_row done next.next (rows_front (done ++ next.next ∷ []) next.more (subst AreRows next.whole are))) next.stands

-- and where nothing is left, of these rows alone
pub these_rows : (section : List ℕ) (done : List DocumentRow) (left : List ℕ) → section ≡ documents_section done ++ left → length left ≡ 0 → (rows : List DocumentRow) → section ≡ documents_section rows → rows ≡ done
unfolding documents_section
these_rows section done left e none rows same = at (goes_on (row_bytes code_of) rows_apart some_row_byte done rows left (sym same ∙ e))
  where
    at_end : (more : List DocumentRow) → rows ≡ done ++ more → left ≡ flat_map (row_bytes code_of) more → rows ≡ done
    at_end [] whole rest = whole ∙ append-nil done
    at_end (row ∷ more) whole rest = absurd (omega (arith, none, ap length rest, some_row_byte row, length-append (row_bytes code_of row) (flat_map (row_bytes code_of) more)))

    at : GoesOn (row_bytes code_of) done rows left → rows ≡ done
    at g = at_end g.more g.whole g.rest

pub rows_of_none : (section : List ℕ) → section ≡ documents_section [] ++ section
unfolding documents_section
rows_of_none section = refl

pub rows_more : (section : List ℕ) (done : List DocumentRow) (row : DocumentRow) (left rest : List ℕ) → section ≡ documents_section done ++ left → left ≡ row_bytes code_of row ++ rest → section ≡ documents_section (done ++ row ∷ []) ++ rest
unfolding documents_section
rows_more section done row left rest e is = read_more (row_bytes code_of) section done row left rest e is

-- the name that was read stands where the row says
pub named : (section before left name behind : List ℕ) → section ≡ before ++ left → left ≡ counted name ++ behind
    → slice_range section (length section - length behind - length name) (length section - length behind - length name + length name) ≡ name
named section before left name behind whole is =
    let code = code_of (length name) in
    let split : section ≡ (before ++ code) ++ (name ++ behind) =
    whole ∙ ap (λ bytes. before ++ bytes) (is ∙ append_assoc code name behind) ∙ sym (append_assoc before code (name ++ behind)) in
    part_at section (before ++ code) name behind (length section - length behind - length name) split (omega (arith, ap length split, length-append (before ++ code) (name ++ behind), length-append name behind))

pub row_found : (left name behind rest : List ℕ) (tokens : ℕ) → left ≡ counted name ++ behind → behind ≡ code_of tokens ++ rest → left ≡ counted name ++ code_of tokens ++ rest
row_found left name behind rest tokens is has = is ∙ ap (λ bytes. counted name ++ bytes) has ∙ sym (append_assoc (counted name) (code_of tokens) rest)

-- behind the name of a row its tokens are coded
pub tokens_behind : (left name behind : List ℕ) (row : DocumentRow) (rest : List ℕ) → left ≡ counted name ++ behind → left ≡ row_bytes code_of row ++ rest → behind ≡ code_of row.tokens ++ rest
tokens_behind left name behind row rest is e =
    (counted-apart name row.name behind (code_of row.tokens ++ rest) (sym is ∙ e ∙ append_assoc (counted row.name) (code_of row.tokens) rest)).1
