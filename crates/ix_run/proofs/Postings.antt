-- The postings of a term in documents, and that counting its occurrences makes them.
use Rattle.std.proofs.Common.{◌≡◌, ℕ, zero, suc, ◌+◌, ◌<◌, ◌≤◌, ◌⊎◌, Bool, true, false, cond, bytes_eq, List, [], ◌∷◌, ◌++◌, length, map, fold, Some, None, All, Contains, slice_get, refl, sym, ap, subst, ◌∙◌, eq-eqb, inl, inr, arith}
use Rattle.std.proofs.lemmas.Bool.{ne_eqb}
use Rattle.std.proofs.lemmas.List.{append_assoc, append-nil, map-append}
use Rattle.std.proofs.lemmas.List.Elements.{All-nil, All-cons, Contains-append_right}
use Rattle.std.proofs.lemmas.List.Sums.{fold-append}
use Rattle.std.proofs.lemmas.Slice.Eq.{bytes_eq-Decides}
use Rattle.std.specs.List.Sorted.{IsStrictlyIncreasing}
use Rattle.ix_text.specs.Collections.{Document}
use Rattle.ix_text.specs.Parts.{Posting, IsTermPosting, AreTermPostings, HasPosition}
use Rattle.ix_text.specs.TokenLists.{Entry}
use Rattle.ix_text.proofs.PartsLemmas.{injected}
use Rattle.ix_text.proofs.TokensTold.{contains_head, contains_tail}
use Rattle.ix_vbyte.specs.Gaps.{Ascends, next_after}
use Rattle.ix_vbyte.specs.Postings.{documents_of}
use Rattle.ix_vbyte.proofs.Gaps.{Ascends-lower, Ascends-rising, next_after-push}
use Rattle.ix_run.specs.Inverted.{grown, occurrences_in, occurrences_of, posted, postings_of}

-- the positions of a term in a token list, whose first entry has that position
abbrev pub positions_at : List ℕ → ℕ → List Entry → List ℕ
positions_at term position [] = []
positions_at term position (None ∷ entries) = positions_at term (position + 1) entries
positions_at term position (Some other ∷ entries) =
    cond (bytes_eq other term) (position ∷ positions_at term (position + 1) entries) (positions_at term (position + 1) entries)

-- the posting of a document, if it has a position
abbrev pub posting_at : ℕ → List ℕ → List Posting
posting_at document [] = []
posting_at document (position ∷ positions) = (document, position ∷ positions) ∷ []

-- the postings of a term in documents, the first of which has that number; a document without the term has none
abbrev pub postings_in : List ℕ → ℕ → List Document → List Posting
postings_in term number [] = []
postings_in term number (document ∷ documents) = posting_at number (positions_at term 0 document.tokens) ++ postings_in term (number + 1) documents

-- ---- counting makes them

-- the last posting is of a document before that one
abbrev pub LastBelow : List Posting → ℕ → Type 0
LastBelow front number = next_after 0 (documents_of front) ≤ number

pub grown-later : (front : List Posting) (document position : ℕ) → LastBelow front document → grown front document position ≡ front ++ (document, position ∷ []) ∷ []
grown-later [] document position below = refl
grown-later (posting ∷ []) document position below = ap (λ b. cond b ((document, posting.1 ++ position ∷ []) ∷ []) (posting ∷ (document, position ∷ []) ∷ [])) (ne_eqb posting.0 document (λ same. omega arith))
grown-later (posting ∷ next ∷ front) document position below = ap (λ postings. posting ∷ postings) (grown-later (next ∷ front) document position below)

pub grown-same : (front : List Posting) (document : ℕ) (positions : List ℕ) (position : ℕ)
    → grown (front ++ (document, positions) ∷ []) document position ≡ front ++ (document, positions ++ position ∷ []) ∷ []
grown-same [] document positions position = ap (λ b. cond b ((document, positions ++ position ∷ []) ∷ []) ((document, positions) ∷ (document, position ∷ []) ∷ [])) (eq-eqb document document refl)
grown-same (posting ∷ []) document positions position = ap (λ postings. posting ∷ postings) (grown-same [] document positions position)
grown-same (posting ∷ next ∷ front) document positions position = ap (λ postings. posting ∷ postings) (grown-same (next ∷ front) document positions position)

-- one above the last document
pub next_document-push : (front : List Posting) (document : ℕ) (positions : List ℕ) → next_after 0 (documents_of (front ++ (document, positions) ∷ [])) ≡ document + 1
next_document-push front document positions =
    ap (next_after 0) (map-append (λ posting. posting.0) front ((document, positions) ∷ []))
    ∙ next_after-push 0 (documents_of front) document

last_below_more : (front : List Posting) (number : ℕ) (positions : List ℕ) → LastBelow front number → LastBelow (front ++ posting_at number positions) (number + 1)
last_below_more front number [] below = let P : List Posting → Type 0 = λ ps. LastBelow ps (number + 1) in subst P (sym (append-nil front)) (omega arith)
last_below_more front number (position ∷ positions) below = omega (arith, next_document-push front number (position ∷ positions))

-- in the document of the last posting
open_fold : (term : List ℕ) (document position : ℕ) (entries : List Entry) (front : List Posting) (positions : List ℕ)
    → fold (posted term) (front ++ (document, positions) ∷ []) (occurrences_in document position entries) ≡ front ++ (document, positions ++ positions_at term position entries) ∷ []
open_fold term document position [] front positions = ap (λ ps. front ++ (document, ps) ∷ []) (sym (append-nil positions))
open_fold term document position (None ∷ entries) front positions = open_fold term document (position + 1) entries front positions
open_fold term document position (Some other ∷ entries) front positions =
    let rest = positions_at term (position + 1) entries in
    let last = front ++ (document, positions) ∷ [] in
    elim (bytes_eq other term) as (λ b. fold (posted term) (cond b (grown last document position) last) (occurrences_in document (position + 1) entries) ≡ front ++ (document, positions ++ cond b (position ∷ rest) rest) ∷ []) [
      | true ↦
          ap (λ ps. fold (posted term) ps (occurrences_in document (position + 1) entries)) (grown-same front document positions position)
          ∙ open_fold term document (position + 1) entries front (positions ++ position ∷ [])
          ∙ ap (λ ps. front ++ (document, ps) ∷ []) (append_assoc positions (position ∷ []) rest)
      | false ↦ open_fold term document (position + 1) entries front positions
    ]

-- in a later document
later_fold : (term : List ℕ) (document position : ℕ) (entries : List Entry) (front : List Posting) → LastBelow front document
    → fold (posted term) front (occurrences_in document position entries) ≡ front ++ posting_at document (positions_at term position entries)
later_fold term document position [] front below = sym (append-nil front)
later_fold term document position (None ∷ entries) front below = later_fold term document (position + 1) entries front below
later_fold term document position (Some other ∷ entries) front below =
    let rest = positions_at term (position + 1) entries in
    elim (bytes_eq other term) as (λ b. fold (posted term) (cond b (grown front document position) front) (occurrences_in document (position + 1) entries) ≡ front ++ posting_at document (cond b (position ∷ rest) rest)) [
      | true ↦
          ap (λ ps. fold (posted term) ps (occurrences_in document (position + 1) entries)) (grown-later front document position below)
          ∙ open_fold term document (position + 1) entries front (position ∷ [])
      | false ↦ later_fold term document (position + 1) entries front below
    ]

documents_fold : (term : List ℕ) (number : ℕ) (documents : List Document) (front : List Posting) → LastBelow front number
    → fold (posted term) front (occurrences_of number documents) ≡ front ++ postings_in term number documents
documents_fold term number [] front below = sym (append-nil front)
documents_fold term number (document ∷ documents) front below =
    let here = posting_at number (positions_at term 0 document.tokens) in
    fold-append (posted term) front (occurrences_in number 0 document.tokens) (occurrences_of (number + 1) documents)
    ∙ ap (λ ps. fold (posted term) ps (occurrences_of (number + 1) documents)) (later_fold term number 0 document.tokens front below)
    ∙ documents_fold term (number + 1) documents (front ++ here) (last_below_more front number (positions_at term 0 document.tokens) below)
    ∙ append_assoc front here (postings_in term (number + 1) documents)

-- counting the occurrences of documents from 0 makes the postings of the term in them
pub postings_counted : (term : List ℕ) (documents : List Document) → postings_of term (occurrences_of 0 documents) ≡ postings_in term 0 documents
postings_counted term documents = documents_fold term 0 documents [] (omega arith)

-- ---- they are the term's postings

pub positions_ascend : (term : List ℕ) (position top : ℕ) (entries : List Entry) → position + length entries ≤ top → Ascends position top (positions_at term position entries)
positions_ascend term position top [] fits = tt
positions_ascend term position top (None ∷ entries) fits =
    Ascends-lower (position + 1) position top (positions_at term (position + 1) entries) (omega arith) (positions_ascend term (position + 1) top entries (omega arith))
positions_ascend term position top (Some other ∷ entries) fits =
    let rest = positions_at term (position + 1) entries in
    let more = positions_ascend term (position + 1) top entries (omega arith) in
    elim (bytes_eq other term) as (λ b. Ascends position top (cond b (position ∷ rest) rest)) [
      | true ↦ (omega arith, omega arith, more)
      | false ↦ Ascends-lower (position + 1) position top rest (omega arith) more
    ]

documents_ascend : (term : List ℕ) (number top : ℕ) (documents : List Document) → number + length documents ≤ top → Ascends number top (map (λ posting. posting.0) (postings_in term number documents))
documents_ascend term number top [] fits = tt
documents_ascend term number top (document ∷ documents) fits =
    let rest = postings_in term (number + 1) documents in
    let more = documents_ascend term (number + 1) top documents (omega arith) in
    elim (positions_at term 0 document.tokens) as (λ ps. Ascends number top (map (λ posting. posting.0) (posting_at number ps ++ rest))) [
      | [] ↦ Ascends-lower (number + 1) number top (map (λ posting. posting.0) rest) (omega arith) more
      | position ∷ positions ↦ (omega arith, omega arith, more)
    ]

each_posting : (term : List ℕ) (number : ℕ) (documents : List Document) → All IsTermPosting (postings_in term number documents)
each_posting term number [] = All-nil IsTermPosting
each_posting term number (document ∷ documents) =
    let up = Ascends-rising 0 (length document.tokens) (positions_at term 0 document.tokens) (positions_ascend term 0 (length document.tokens) document.tokens (omega arith)) in
    by (positions_at term 0 document.tokens) up (each_posting term (number + 1) documents)
  where
    by : (positions : List ℕ) → IsStrictlyIncreasing positions → All IsTermPosting (postings_in term (number + 1) documents) → All IsTermPosting (posting_at number positions ++ postings_in term (number + 1) documents)
    by [] up rest = rest
    by (position ∷ positions) up rest = All-cons IsTermPosting (number, position ∷ positions) (postings_in term (number + 1) documents) (omega arith, up) rest

-- the entry of that document at that position is the term, documents counted from the number
pub record StandsAt (documents : List Document) (term : List ℕ) (number document position : ℕ) : Type 0 where
  pub place : ℕ
  pub counted : document ≡ number + place
  pub row : Document
  pub numbered : slice_get documents place ≡ Some row
  pub entry : slice_get row.tokens position ≡ Some (Some term)

record PositionAt (entries : List Entry) (term : List ℕ) (from position : ℕ) : Type 0 where
  pub place : ℕ
  pub counted : position ≡ from + place
  pub entry : slice_get entries place ≡ Some (Some term)

further : (entry : Entry) (entries : List Entry) (term : List ℕ) (from position : ℕ) → PositionAt entries term (from + 1) position → PositionAt (entry ∷ entries) term from position
further entry entries term from position at = record { place = suc at.place; counted = let c = at.counted in omega arith; entry = at.entry }

none_within : {A : Type 0} (x : A) → Contains [] x → ⊥
none_within x (k, within, is) = absurd (omega arith)

head_or_tail : {A : Type 0} (x : A) (xs : List A) (y : A) → Contains (x ∷ xs) y → (x ≡ y) ⊎ Contains xs y
head_or_tail x xs y (zero, within, is) = inl is
head_or_tail x xs y (suc k, within, is) = inr (k, omega arith, is)

position_from : (term : List ℕ) (from : ℕ) (entries : List Entry) (position : ℕ) → Contains (positions_at term from entries) position → PositionAt entries term from position
position_from term from [] position has = absurd (none_within position has)
position_from term from (None ∷ entries) position has = further None entries term from position (position_from term (from + 1) entries position has)
position_from term from (Some other ∷ entries) position has = by (bytes_eq other term) refl has (λ more. position_from term (from + 1) entries position more)
  where
    by : (b : Bool) → bytes_eq other term ≡ b → Contains (cond b (from ∷ positions_at term (from + 1) entries) (positions_at term (from + 1) entries)) position
        → (Contains (positions_at term (from + 1) entries) position → PositionAt entries term (from + 1) position) → PositionAt (Some other ∷ entries) term from position
    by true same h rest = elim (head_or_tail from (positions_at term (from + 1) entries) position h) [
      | inl here ↦ record { place = 0; counted = omega arith; entry = ap (λ t. Some (Some t)) ((bytes_eq-Decides other term).0 same) }
      | inr more ↦ further (Some other) entries term from position (rest more)
    ]
    by false differ h rest = further (Some other) entries term from position (rest h)

position_of : (term : List ℕ) (from : ℕ) (entries : List Entry) (place : ℕ) → slice_get entries place ≡ Some (Some term) → Contains (positions_at term from entries) (from + place)
position_of term from [] place at = cc
position_of term from (None ∷ entries) zero at = cc
position_of term from (None ∷ entries) (suc place) at =
    let P : ℕ → Type 0 = Contains (positions_at term (from + 1) entries) in subst P (omega arith) (position_of term (from + 1) entries place at)
position_of term from (Some other ∷ entries) zero at =
    let same : bytes_eq other term ≡ true = (bytes_eq-Decides other term).1 (injected (injected at)) in
    let P : List ℕ → Type 0 = λ ps. Contains ps (from + 0) in
    let Q : ℕ → Type 0 = Contains (from ∷ positions_at term (from + 1) entries) in
    subst P (sym (ap (λ b. cond b (from ∷ positions_at term (from + 1) entries) (positions_at term (from + 1) entries)) same)) (subst Q (omega arith) (contains_head from (positions_at term (from + 1) entries)))
position_of term from (Some other ∷ entries) (suc place) at =
    let P : ℕ → Type 0 = Contains (positions_at term (from + 1) entries) in
    let more = subst P (omega arith) (position_of term (from + 1) entries place at) in
    by (bytes_eq other term) more
  where
    by : (b : Bool) → Contains (positions_at term (from + 1) entries) (from + suc place) → Contains (cond b (from ∷ positions_at term (from + 1) entries) (positions_at term (from + 1) entries)) (from + suc place)
    by true more = contains_tail from (positions_at term (from + 1) entries) (from + suc place) more
    by false more = more

row_further : (row : Document) (documents : List Document) (term : List ℕ) (number document position : ℕ) → StandsAt documents term (number + 1) document position → StandsAt (row ∷ documents) term number document position
row_further row documents term number document position at = record { place = suc at.place; counted = let c = at.counted in omega arith; row = at.row; numbered = at.numbered; entry = at.entry }

-- a posting of a document, or one of those behind
posting_or_later : (number : ℕ) (positions : List ℕ) (rest : List Posting) (posting : Posting) → Contains (posting_at number positions ++ rest) posting → (posting ≡ (number, positions)) ⊎ Contains rest posting
posting_or_later number [] rest posting has = inr has
posting_or_later number (position ∷ positions) rest posting has = elim (head_or_tail (number, position ∷ positions) rest posting has) [ inl same ↦ inl (sym same) | inr more ↦ inr more ]

pub stands_from : (term : List ℕ) (number : ℕ) (documents : List Document) (document position : ℕ) → HasPosition (postings_in term number documents) document position → StandsAt documents term number document position
stands_from term number [] document position has = absurd (none_within (document, has.positions) has.among)
stands_from term number (row ∷ documents) document position has =
    elim (posting_or_later number (positions_at term 0 row.tokens) (postings_in term (number + 1) documents) (document, has.positions) has.among) [
      | inl same ↦
          let P : List ℕ → Type 0 = λ ps. Contains ps position in
          let at = position_from term 0 row.tokens position (subst P (ap (λ p. p.1) same) has.positioned) in
          let here : at.place ≡ position = let c = at.counted in omega arith in
          record { place = 0; counted = let d = ap (λ p. p.0) same in omega arith; row = row; numbered = refl; entry = ap (slice_get row.tokens) (sym here) ∙ at.entry }
      | inr more ↦ row_further row documents term number document position (stands_from term (number + 1) documents document position (record { positions = has.positions; among = more; positioned = has.positioned }))
    ]

pub stands_of : (term : List ℕ) (number : ℕ) (documents : List Document) (place : ℕ) (row : Document) (position : ℕ) → slice_get documents place ≡ Some row → slice_get row.tokens position ≡ Some (Some term)
    → HasPosition (postings_in term number documents) (number + place) position
stands_of term number [] place row position at entry = cc
stands_of term number (first ∷ documents) zero row position at entry =
    let entry' : slice_get first.tokens position ≡ Some (Some term) = ap (λ d. slice_get d.tokens position) (injected at) ∙ entry in
    let held = position_of term 0 first.tokens position entry' in
    let Q : ℕ → Type 0 = λ p. Contains (positions_at term 0 first.tokens) p in
    let P : ℕ → Type 0 = λ n. HasPosition (posting_at number (positions_at term 0 first.tokens) ++ postings_in term (number + 1) documents) n position in
    subst P (omega arith) (by (positions_at term 0 first.tokens) (subst Q (omega arith) held))
  where
    by : (positions : List ℕ) → Contains positions position → HasPosition (posting_at number positions ++ postings_in term (number + 1) documents) number position
    by [] has = absurd (none_within position has)
    by (p ∷ positions) has = record { positions = p ∷ positions; among = contains_head (number, p ∷ positions) (postings_in term (number + 1) documents); positioned = has }
stands_of term number (first ∷ documents) (suc place) row position at entry =
    let more = stands_of term (number + 1) documents place row position at entry in
    let P : ℕ → Type 0 = λ n. HasPosition (posting_at number (positions_at term 0 first.tokens) ++ postings_in term (number + 1) documents) n position in
    subst P (omega arith) (record { positions = more.positions; among = Contains-append_right (posting_at number (positions_at term 0 first.tokens)) (postings_in term (number + 1) documents) (number + 1 + place, more.positions) more.among; positioned = more.positioned })

-- some postings of a term are in order
pub are_postings : (term : List ℕ) (documents : List Document) → 0 < length (postings_in term 0 documents) → AreTermPostings (postings_in term 0 documents)
are_postings term documents some = record {
  some = some;
  ascending = Ascends-rising 0 (length documents) (map (λ posting. posting.0) (postings_in term 0 documents)) (documents_ascend term 0 (length documents) documents (omega arith));
  each = each_posting term 0 documents;
}
