-- Terms with their lists close together: what is held is what the rows tell.
use Rattle.std.proofs.Common.{◌≡◌, ℕ, zero, suc, ◌<◌, ◌≤◌, Option, List, [], ◌∷◌, ◌++◌, length, take, drop, flat_map, All, IsUtf8, refl, sym, ap, ap₂, subst, ◌∙◌, arith, append_assoc, append-nil, length-append}
use Rattle.std.proofs.lemmas.Grind.{flat_map-append}
use Rattle.std.proofs.lemmas.List.{drop_at, nil_from_length, take_at}
use Rattle.std.proofs.lemmas.List.Elements.{All-head, All-nil, All-push, All-tail}
use Rattle.ix_vbyte.specs.Code.{code_of}
use Rattle.ix_vbyte.specs.CodesIn.{numbers_in}
use Rattle.ix_vbyte.proofs.Values.{length-code_of}
use Rattle.ix_vbyte.proofs.Walks.{numbers_in-nil}
use Rattle.ix_run.specs.HeldTerms.{HoldTerms, BeginsWithRow, MayBeHeld, ReadsRow, bytes_of_row, bytes_of_term, row_of_term, terms_in, terms_told, told_behind, told_first}
use Rattle.std.specs.Io.KnownBytes.{Appends}
use Rattle.ix_output.specs.Sinks.{AppendsFront}
use Rattle.ix_output.proofs.SinkLemmas.{appends_nothing, appends_then}
use Rattle.ix_run.specs.Runs.{TermValue, value_bytes}
use Rattle.ix_run.specs.declared.coded_terms.TermRow.{TermRow}
use Rattle.ix_run.proofs.TermRows.{row_numbers}
use Rattle.ix_run.proofs.Writing.{front_more, front_then}

abbrev pub held_bytes : List TermValue → List ℕ
held_bytes terms = flat_map bytes_of_term terms

-- the bytes of a term before others: its row, and behind it the text and the list
term_spelled : (value : TermValue) (rest : List ℕ) → bytes_of_term value ++ rest ≡ bytes_of_row (row_of_term value) ++ (value.term ++ (value.list ++ rest))
term_spelled value rest = append_assoc (bytes_of_row (row_of_term value)) (value.term ++ value.list) rest ∙ ap (λ (bytes : List ℕ). bytes_of_row (row_of_term value) ++ bytes) (append_assoc value.term value.list rest)

-- ---- what is held is told

-- a row's numbers, and then its text and its list
behind_told : (others : List ℕ → List TermValue) (value : TermValue) (rest : List ℕ) → told_behind others (row_of_term value) (value.term ++ (value.list ++ rest)) ≡ value ∷ others rest
behind_told others value rest =
    let row = row_of_term value in
    let text = take_at value.term (value.list ++ rest) (length value.term) refl in
    let listed = drop_at value.term (value.list ++ rest) (length value.term) refl in
    let list = take_at value.list rest (length value.list) refl in
    let behind = drop_at value.list rest (length value.list) refl in
    ap₂ (λ (t l : List ℕ). record { term = t; documents = value.documents; last = value.last; list = take (length value.list) l } ∷ others (drop (length value.list) l)) text listed
    ∙ ap₂ (λ (l r : List ℕ). record { term = value.term; documents = value.documents; last = value.last; list = l } ∷ others r) list behind

first_told_of : (others : List ℕ → List TermValue) (value : TermValue) (rest : List ℕ) → MayBeHeld value → told_first others (bytes_of_term value ++ rest) (numbers_in (bytes_of_term value ++ rest)) ≡ value ∷ others rest
first_told_of others value rest may =
    let row = row_of_term value in
    let behind = value.term ++ (value.list ++ rest) in
    ap (λ (bytes : List ℕ). told_first others bytes (numbers_in bytes)) (term_spelled value rest)
    ∙ ap (told_first others (bytes_of_row row ++ behind)) (row_numbers row behind may.row)
    ∙ ap (told_behind others row) (drop_at (bytes_of_row row) behind (length (bytes_of_row row)) refl)
    ∙ behind_told others value rest

told : (terms : List TermValue) (most : ℕ) → All MayBeHeld terms → length terms ≤ most → terms_told most (held_bytes terms) ≡ terms
told [] zero each few = refl
told [] (suc most) each few = ap (told_first (terms_told most) []) numbers_in-nil
told (value ∷ terms) zero each few = absurd (omega arith)
told (value ∷ terms) (suc most) each few =
    first_told_of (terms_told most) value (held_bytes terms) (All-head MayBeHeld value terms each)
    ∙ ap (λ (values : List TermValue). value ∷ values) (told terms most (All-tail MayBeHeld value terms each) (omega arith))

term_takes_bytes : (value : TermValue) → MayBeHeld value → 0 < length (bytes_of_term value)
term_takes_bytes value may =
    let row = row_of_term value in
    let first = (length-code_of row.text may.row.text).0 in
    omega (arith, length-append (bytes_of_row row) (value.term ++ value.list), length-append (code_of row.text) (code_of row.list ++ (code_of row.documents ++ code_of row.last)))

-- there are no more terms than bytes
few_terms : (terms : List TermValue) → All MayBeHeld terms → length terms ≤ length (held_bytes terms)
few_terms [] each = omega arith
few_terms (value ∷ terms) each =
    let one = term_takes_bytes value (All-head MayBeHeld value terms each) in
    let others = few_terms terms (All-tail MayBeHeld value terms each) in
    omega (arith, length-append (bytes_of_term value) (held_bytes terms))

pub terms_held : (bytes : List ℕ) (terms : List TermValue) → HoldTerms bytes terms → terms_in bytes ≡ terms
terms_held bytes terms holds = ap terms_in holds.of_bytes ∙ told terms (length (held_bytes terms)) holds.each (few_terms terms holds.each)

-- what holds some terms holds those that it tells
pub held_told : (bytes : List ℕ) (terms : List TermValue) → HoldTerms bytes terms → HoldTerms bytes (terms_in bytes)
held_told bytes terms holds = subst (HoldTerms bytes) (sym (terms_held bytes terms holds)) holds

-- ---- no terms, and one more

pub none_told : (bytes : List ℕ) → length bytes ≡ 0 → terms_in bytes ≡ []
none_told bytes none = ap terms_in (nil_from_length bytes none)

pub none_held : HoldTerms [] (terms_in [])
none_held = held_told [] [] (record { of_bytes = refl; each = All-nil MayBeHeld })

flat_push : {A : Type 0} (f : A → List ℕ) (xs : List A) (x : A) → flat_map f (xs ++ x ∷ []) ≡ flat_map f xs ++ f x
flat_push f xs x = flat_map-append f xs (x ∷ []) ∙ ap (λ bytes. flat_map f xs ++ bytes) (append-nil (f x))

pub one_more_held : (bytes : List ℕ) (terms : List TermValue) (value : TermValue) (bytes' : List ℕ) → HoldTerms bytes terms → MayBeHeld value → bytes' ≡ bytes ++ bytes_of_term value → HoldTerms bytes' (terms ++ value ∷ [])
one_more_held bytes terms value bytes' holds may more = record {
  of_bytes = more ∙ ap (λ (bs : List ℕ). bs ++ bytes_of_term value) holds.of_bytes ∙ sym (flat_push bytes_of_term terms value);
  each = All-push MayBeHeld terms value holds.each may;
}

-- ---- the first term

-- There is a first term, and the others are held behind it.
record IsFirstHeld (bytes : List ℕ) (terms : List TermValue) : Type 0 where
  value : TermValue
  rest : List TermValue
  parts : terms ≡ value ∷ rest
  may : MayBeHeld value
  each : All MayBeHeld rest
  of_bytes : bytes ≡ bytes_of_row (row_of_term value) ++ (value.term ++ (value.list ++ held_bytes rest))

first_held : (bytes : List ℕ) (terms : List TermValue) → HoldTerms bytes terms → 0 < length bytes → IsFirstHeld bytes terms
first_held bytes [] holds some = let none : length bytes ≡ 0 = ap length holds.of_bytes in absurd (omega arith)
first_held bytes (value ∷ rest) holds some = record {
  value = value;
  rest = rest;
  parts = refl;
  may = All-head MayBeHeld value rest holds.each;
  each = All-tail MayBeHeld value rest holds.each;
  of_bytes = holds.of_bytes ∙ term_spelled value (held_bytes rest);
}

pub begins_with_row : (bytes : List ℕ) → HoldTerms bytes (terms_in bytes) → 0 < length bytes → BeginsWithRow bytes
begins_with_row bytes holds some =
    let first = first_held bytes (terms_in bytes) holds some in
    record { row = row_of_term first.value; rest = first.value.term ++ (first.value.list ++ held_bytes first.rest); is = first.may.row; coded = first.of_bytes }

-- The first term is the one of this row with what stands behind it, and the others are held behind that.
pub record IsFirstTold (bytes : List ℕ) (row : TermRow) (behind : List ℕ) : Type 0 where
  pub text_within : row.text ≤ length behind
  pub list_within : row.list ≤ length (drop row.text behind)
  pub utf8 : IsUtf8 (take row.text behind)
  pub told : terms_in bytes ≡ told_behind terms_in row behind
  pub behind_it : HoldTerms (drop row.list (drop row.text behind)) (terms_in (drop row.list (drop row.text behind)))

pub first_told : (bytes : List ℕ) (row : TermRow) (behind : List ℕ) → HoldTerms bytes (terms_in bytes) → 0 < length bytes → ReadsRow bytes row behind → IsFirstTold bytes row behind
first_told bytes row behind holds some reads =
    let first = first_held bytes (terms_in bytes) holds some in
    let value = first.value in
    let rest = held_bytes first.rest in
    let stands = value.term ++ (value.list ++ rest) in
    let read = reads (row_of_term value) stands first.may.row first.of_bytes in
    let text = take_at value.term (value.list ++ rest) (length value.term) refl in
    let listed = drop_at value.term (value.list ++ rest) (length value.term) refl in
    let after : drop (length value.list) (drop (length value.term) stands) ≡ rest = ap (drop (length value.list)) listed ∙ drop_at value.list rest (length value.list) refl in
    let held : HoldTerms rest first.rest = record { of_bytes = refl; each = first.each } in
    let is : IsFirstTold bytes (row_of_term value) stands =
    record {
      text_within = omega (arith, length-append value.term (value.list ++ rest));
      list_within = omega (arith, ap length listed, length-append value.list rest);
      utf8 = subst IsUtf8 (sym text) first.may.utf8;
      told = first.parts ∙ ap (λ (terms : List TermValue). value ∷ terms) (sym (terms_held rest first.rest held)) ∙ sym (behind_told terms_in value rest);
      behind_it = subst (λ (bs : List ℕ). HoldTerms bs (terms_in bs)) (sym after) (held_told rest first.rest held);
    } in
    subst (IsFirstTold bytes row) (sym read.1) (subst (λ (r : TermRow). IsFirstTold bytes r stands) (sym read.0) is)

-- ---- terms that are put out one after another

-- The terms that are not left are out.
pub record IsPutBefore (before now : Option (List ℕ)) (terms left : List TermValue) : Type 0 where
  pub done : List TermValue
  pub parts : terms ≡ done ++ left
  pub put : Appends before now (flat_map value_bytes done)

pub none_put : (out : Option (List ℕ)) (terms left : List TermValue) → left ≡ terms → IsPutBefore out out terms left
none_put out terms left same = record { done = []; parts = sym same; put = appends_nothing out }

pub one_more_put : (before now later : Option (List ℕ)) (terms left next : List TermValue) (value : TermValue) → IsPutBefore before now terms left → left ≡ value ∷ next
    → Appends now later (value_bytes value) → IsPutBefore before later terms next
one_more_put before now later terms left next value so_far step put = record {
  done = so_far.done ++ value ∷ [];
  parts = so_far.parts ∙ ap (λ (rest : List TermValue). so_far.done ++ rest) step ∙ sym (append_assoc so_far.done (value ∷ []) next);
  put = subst (Appends before later) (sym (flat_push value_bytes so_far.done value)) (appends_then before now later (flat_map value_bytes so_far.done) (value_bytes value) so_far.put put);
}

pub all_put : (before now : Option (List ℕ)) (terms left : List TermValue) → IsPutBefore before now terms left → left ≡ [] → Appends before now (flat_map value_bytes terms)
all_put before now terms left so_far none =
    let whole : terms ≡ so_far.done = so_far.parts ∙ ap (λ (rest : List TermValue). so_far.done ++ rest) none ∙ append-nil so_far.done in
    subst (λ (ts : List TermValue). Appends before now (flat_map value_bytes ts)) (sym whole) so_far.put

-- a term that is put in part leaves a front of all
pub front_put : (before now later : Option (List ℕ)) (terms left next : List TermValue) (value : TermValue) → IsPutBefore before now terms left → left ≡ value ∷ next
    → AppendsFront now later (value_bytes value) → AppendsFront before later (flat_map value_bytes terms)
front_put before now later terms left next value so_far step put =
    let whole : terms ≡ (so_far.done ++ value ∷ []) ++ next =
    so_far.parts ∙ ap (λ (rest : List TermValue). so_far.done ++ rest) step ∙ sym (append_assoc so_far.done (value ∷ []) next) in
    let bytes : flat_map value_bytes terms ≡ (flat_map value_bytes so_far.done ++ value_bytes value) ++ flat_map value_bytes next =
    ap (flat_map value_bytes) whole ∙ flat_map-append value_bytes (so_far.done ++ value ∷ []) next
    ∙ ap (λ (bs : List ℕ). bs ++ flat_map value_bytes next) (flat_push value_bytes so_far.done value) in
    subst (AppendsFront before later) (sym bytes)
    (front_more _ _ (flat_map value_bytes so_far.done ++ value_bytes value) (flat_map value_bytes next) (front_then _ _ _ (flat_map value_bytes so_far.done) (value_bytes value) so_far.put put))

-- what holds of all holds of the next one
all_behind : (P : TermValue → Type 0) (front rest : List TermValue) → All P (front ++ rest) → All P rest
all_behind P [] rest all = all
all_behind P (value ∷ front) rest all = all_behind P front rest (All-tail P value (front ++ rest) all)

pub next_is : (P : TermValue → Type 0) (before now : Option (List ℕ)) (terms left next : List TermValue) (value : TermValue) → All P terms → IsPutBefore before now terms left → left ≡ value ∷ next → P value
next_is P before now terms left next value all so_far step =
    let rest = all_behind P so_far.done left (subst (All P) so_far.parts all) in All-head P value next (subst (All P) step rest)
