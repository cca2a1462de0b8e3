-- The collection that lawful parts tell: each token is the term of the entry that has its position.
use Rattle.std.proofs.Common.{◌≡◌, ℕ, zero, suc, ◌+◌, ◌<◌, Bool, true, false, ◌&&◌, ◌||◌, List, [], ◌∷◌, ◌⊎◌, map, length, slice_get, Some, None, Contains, cond, refl, sym, ap, ap₂, ◌∙◌, arith, inl, inr, subst, eqb}
use Rattle.std.proofs.lemmas.Bool.{eqb-true, eq-eqb}
use Rattle.std.proofs.lemmas.List.{length-map}
use Rattle.std.proofs.lemmas.List.Folds.{list_any_at}
use Rattle.std.proofs.lemmas.List.FromFn.{length-range_with_len, get_or-range_with_len}
use Rattle.std.proofs.lemmas.Option.{slice_get-get_or, slice_get-map}
use Rattle.std.specs.List.{list_any, range_with_len}
use Rattle.std.specs.Option.{option_map}
use Rattle.ix_text.specs.Collections.{Collection, Document}
use Rattle.ix_text.specs.TokenLists.{Entry}
use Rattle.ix_text.proofs.PartsLemmas.{injected}
use Rattle.ix_text.specs.Parts.{Parts, Posting, DictionaryEntry, DocumentRow, HasPosition}

-- the positions have the position
abbrev pub has_number : ℕ → List ℕ → Bool
has_number number numbers = list_any (λ n. eqb n number) numbers

-- the posting has the position in the document
abbrev pub posting_has : ℕ → ℕ → Posting → Bool
posting_has number position posting = eqb posting.0 number && has_number position posting.1

-- the postings have it
abbrev pub has_position : List Posting → ℕ → ℕ → Bool
has_position postings number position = list_any (posting_has number position) postings

-- the term that stands at a position
abbrev pub token_at : List DictionaryEntry → ℕ → ℕ → Entry
token_at [] number position = None
token_at (entry ∷ entries) number position = cond (has_position entry.postings number position) (Some entry.term) (token_at entries number position)

abbrev pub tokens_told : List DictionaryEntry → ℕ → ℕ → List Entry
tokens_told entries number count = map (λ position. token_at entries number position) (range_with_len 0 count)

abbrev pub document_told : List DictionaryEntry → ℕ → DocumentRow → Document
document_told entries number row = record { name = row.name; tokens = tokens_told entries number row.tokens }

abbrev pub documents_told : List DictionaryEntry → ℕ → List DocumentRow → List Document
documents_told entries number [] = []
documents_told entries number (row ∷ rows) = document_told entries number row ∷ documents_told entries (number + 1) rows

abbrev pub collection_told : Parts → Collection
collection_told parts = record { stop = parts.stop; documents = documents_told parts.entries 0 parts.rows }

-- an element of a list is one of a longer list
pub contains_tail : {A : Type 0} (x : A) (xs : List A) (y : A) → Contains xs y → Contains (x ∷ xs) y
contains_tail x xs y (k, within, is) = (suc k, omega (arith, within), is)

pub contains_head : {A : Type 0} (x : A) (xs : List A) → Contains (x ∷ xs) x
contains_head x xs = (0, omega arith, refl)

pub or_cases : (a b : Bool) → a || b ≡ true → (a ≡ true) ⊎ (b ≡ true)
or_cases true b h = inl refl
or_cases false b h = inr h

pub and_both : (a b : Bool) → a && b ≡ true → (a ≡ true) × (b ≡ true)
and_both true b h = (refl, h)
and_both false b h = cc

pub has_number_from : (number : ℕ) (numbers : List ℕ) → has_number number numbers ≡ true → Contains numbers number
has_number_from number [] h = cc
has_number_from number (n ∷ numbers) h =
    elim (or_cases (eqb n number) (has_number number numbers) h) [
      | inl here ↦ subst (λ (m : ℕ). Contains (n ∷ numbers) m) (eqb-true n number here) (contains_head n numbers)
      | inr later ↦ contains_tail n numbers number (has_number_from number numbers later)
    ]

pub has_number_of : (number : ℕ) (numbers : List ℕ) → Contains numbers number → has_number number numbers ≡ true
has_number_of number numbers (k, within, is) = list_any_at (λ n. eqb n number) numbers k number within (eq-eqb _ number is)

pub has_position_from : (postings : List Posting) (number position : ℕ) → has_position postings number position ≡ true → HasPosition postings number position
has_position_from [] number position h = cc
has_position_from (posting ∷ postings) number position h =
    elim (or_cases (posting_has number position posting) (has_position postings number position) h) [
      | inl here ↦
          let (same, has) = and_both (eqb posting.0 number) (has_number position posting.1) here in
          let e : posting.0 ≡ number = eqb-true posting.0 number same in
          record {
            positions = posting.1;
            among = subst (λ (n : ℕ). Contains (posting ∷ postings) (n, posting.1)) e (contains_head posting postings);
            positioned = has_number_from position posting.1 has;
          }
      | inr later ↦
          let found = has_position_from postings number position later in
          record { positions = found.positions; among = contains_tail posting postings (number, found.positions) found.among; positioned = found.positioned }
    ]

pub has_position_of : (postings : List Posting) (number position : ℕ) → HasPosition postings number position → has_position postings number position ≡ true
has_position_of postings number position has =
    let k = has.among.0 in
    let here : posting_has number position (number, has.positions) ≡ true =
    ap₂ (λ a b. a && b) (eq-eqb number number refl) (has_number_of position has.positions has.positioned) in
    list_any_at (posting_has number position) postings k (number, has.positions) has.among.1 (ap (posting_has number position) has.among.2 ∙ here)

-- an entry of the dictionary whose term stands at the position
pub record IsTold (entries : List DictionaryEntry) (number position : ℕ) (term : List ℕ) : Type 0 where
  pub entry : DictionaryEntry
  pub among : Contains entries entry
  pub has : HasPosition entry.postings number position
  pub is : entry.term ≡ term

-- one entry more, which may have the position itself
pub told_with_one_more : (entry : DictionaryEntry) (entries : List DictionaryEntry) (number position : ℕ) (term : List ℕ) (b : Bool) → has_position entry.postings number position ≡ b → (token_at entries number position ≡ Some term → IsTold entries number position term) → cond b (Some entry.term) (token_at entries number position) ≡ Some term → IsTold (entry ∷ entries) number position term
told_with_one_more entry entries number position term true e again t =
    record { entry = entry; among = contains_head entry entries; has = has_position_from entry.postings number position e; is = injected t }
told_with_one_more entry entries number position term false e again t =
    let found = again t in
    record { entry = found.entry; among = contains_tail entry entries found.entry found.among; has = found.has; is = found.is }

pub told_from_token : (entries : List DictionaryEntry) (number position : ℕ) (term : List ℕ) → token_at entries number position ≡ Some term → IsTold entries number position term
told_from_token [] number position term h = cc
told_from_token (entry ∷ entries) number position term h =
    told_with_one_more entry entries number position term (has_position entry.postings number position) refl (told_from_token entries number position term) h

-- no two entries have the position but with one term
abbrev pub AreApart : List DictionaryEntry → ℕ → ℕ → Type 0
AreApart entries number position =
    (one other : DictionaryEntry) → Contains entries one → Contains entries other
    → HasPosition one.postings number position → HasPosition other.postings number position → one.term ≡ other.term

pub false_from_has : (postings : List Posting) (number position : ℕ) → has_position postings number position ≡ false → HasPosition postings number position → ⊥
false_from_has postings number position e has = let t = has_position_of postings number position has in absurd (cc (t, e))

pub token_with_one_more : (first : DictionaryEntry) (entries : List DictionaryEntry) (number position : ℕ) (entry : DictionaryEntry) (b : Bool) → has_position first.postings number position ≡ b → AreApart (first ∷ entries) number position → Contains (first ∷ entries) entry → HasPosition entry.postings number position → (AreApart entries number position → Contains entries entry → token_at entries number position ≡ Some entry.term) → cond b (Some first.term) (token_at entries number position) ≡ Some entry.term
token_with_one_more first entries number position entry true e apart among has again =
    ap Some (apart first entry (contains_head first entries) among (has_position_from first.postings number position e) has)
token_with_one_more first entries number position entry false e apart (zero, within, is) has again =
    absurd (false_from_has first.postings number position e (subst (λ (x : DictionaryEntry). HasPosition x.postings number position) (sym is) has))
token_with_one_more first entries number position entry false e apart (suc k, within, is) has again =
    again (λ one other a b. apart one other (contains_tail first entries one a) (contains_tail first entries other b)) (k, omega (arith, within), is)

pub token_of_entry : (entries : List DictionaryEntry) (number position : ℕ) (entry : DictionaryEntry) → AreApart entries number position → Contains entries entry → HasPosition entry.postings number position → token_at entries number position ≡ Some entry.term
token_of_entry [] number position entry apart (k, within, is) has = absurd (omega (arith, within))
token_of_entry (first ∷ entries) number position entry apart among has =
    token_with_one_more first entries number position entry (has_position first.postings number position) refl apart among has (λ a c. token_of_entry entries number position entry a c has)

-- the documents by their numbers
pub document_numbered : (entries : List DictionaryEntry) (from : ℕ) (rows : List DocumentRow) (k : ℕ) → slice_get (documents_told entries from rows) k ≡ option_map (λ row. document_told entries (from + k) row) (slice_get rows k)
document_numbered entries from [] k = refl
document_numbered entries from (row ∷ rows) zero = ap (λ n. Some (document_told entries n row)) (omega arith)
document_numbered entries from (row ∷ rows) (suc k) =
    let e : from + 1 + k ≡ from + suc k = omega arith in
    document_numbered entries (from + 1) rows k ∙ ap (λ n. option_map (λ row. document_told entries n row) (slice_get rows k)) e

-- the tokens by their positions
pub number_in_range : (from count k : ℕ) → k < count → slice_get (range_with_len from count) k ≡ Some (from + k)
number_in_range from count k within =
    let below : k < length (range_with_len from count) = omega (arith, within, length-range_with_len from count) in
    slice_get-get_or (range_with_len from count) k 0 below ∙ ap Some (get_or-range_with_len from count k 0 within)

pub token_positioned : (entries : List DictionaryEntry) (number count position : ℕ) → position < count → slice_get (tokens_told entries number count) position ≡ Some (token_at entries number position)
token_positioned entries number count position within =
    let e : 0 + position ≡ position = omega arith in
    slice_get-map (λ p. token_at entries number p) (range_with_len 0 count) position
    ∙ ap (option_map (λ p. token_at entries number p)) (number_in_range 0 count position within)
    ∙ ap (λ p. Some (token_at entries number p)) e

pub length-tokens_told : (entries : List DictionaryEntry) (number count : ℕ) → length (tokens_told entries number count) ≡ count
length-tokens_told entries number count = length-map (range_with_len 0 count) (λ p. token_at entries number p) ∙ length-range_with_len 0 count
