-- Lawful parts are those of the collection that they tell, and it is lawful.
use Rattle.std.proofs.Common.{◌≡◌, ℕ, suc, ◌+◌, ◌<◌, List, [], ◌∷◌, map, length, get_or, slice_get, Some, None, All, Contains, sum_by, refl, sym, ap, ap₂, ◌∙◌, arith, inl, inr, subst, Less, Greater}
use Rattle.std.proofs.lemmas.Cmp.{nat_list_cmp_total}
use Rattle.std.proofs.lemmas.List.{length-map, get_or-map}
use Rattle.std.proofs.lemmas.List.Elements.{All-contains, All-cons, All-head, All-tail, Contains-get_or}
use Rattle.std.proofs.lemmas.List.Sums.{sum_by-cons}
use Rattle.std.proofs.lemmas.Map.Keys.{Less-from_sorted}
use Rattle.std.proofs.lemmas.Option.{slice_get_within, slice_get-get_or, slice_get_cases, get_or_from_slice_get}
use Rattle.std.specs.Cmp.Lexicographic.{slice_cmp}
use Rattle.std.specs.Option.{option_map}
use Rattle.std.proofs.lemmas.Bool.{cases_lt}
use Rattle.std.specs.Ordering.{nat_cmp, ordering_reverse}
use Rattle.ix_text.specs.ByteOrder.{IsAscending}
use Rattle.ix_text.specs.Collections.{Document, IsName, IsLawful, IsLawfulEntry, IsVocabulary, HasPosting}
use Rattle.ix_text.specs.Parts.{Parts, Posting, DictionaryEntry, DocumentRow, ArePartsOf, IsTermPosting, AreTermPostings, IsEntryOf, HasPosition, row_of, terms_of}
use Rattle.ix_text.specs.PartsLaws.{IsLawfulTerm, AreLawful, HasCollection}
use Rattle.ix_text.specs.Terms.{IsTerm}
use Rattle.ix_text.specs.TokenLists.{Entry}
use Rattle.ix_text.proofs.PartsLemmas.{injected, entry_of_contained}
use Rattle.ix_text.proofs.TokensTold.{token_at, tokens_told, document_told, documents_told, collection_told, IsTold, told_from_token, token_of_entry, document_numbered, token_positioned, length-tokens_told}

-- the rows of the documents told are the rows
pub rows_told : (entries : List DictionaryEntry) (from : ℕ) (rows : List DocumentRow) → map row_of (documents_told entries from rows) ≡ rows
rows_told entries from [] = refl
rows_told entries from (row ∷ rows) =
    ap₂ (λ (r : DocumentRow) (rs : List DocumentRow). r ∷ rs)
    (ap (λ (n : ℕ). let told : DocumentRow = record { name = row.name; tokens = n } in told) (length-tokens_told entries from row.tokens))
    (rows_told entries (from + 1) rows)

-- what one row says of the tokens
pub record IsToken (parts : Parts) (number position : ℕ) (term : List ℕ) : Type 0 where
  pub row : DocumentRow
  pub numbered : slice_get parts.rows number ≡ Some row
  pub below : position < row.tokens
  pub token : token_at parts.entries number position ≡ Some term

pub document_at : (parts : Parts) (number : ℕ) (row : DocumentRow) → slice_get parts.rows number ≡ Some row → slice_get (documents_told parts.entries 0 parts.rows) number ≡ Some (document_told parts.entries number row)
document_at parts number row numbered =
    let e : 0 + number ≡ number = omega arith in
    document_numbered parts.entries 0 parts.rows number ∙ ap (option_map (λ row. document_told parts.entries (0 + number) row)) numbered ∙ ap (λ n. Some (document_told parts.entries n row)) e

pub posting_from_token : (parts : Parts) (number position : ℕ) (term : List ℕ) → IsToken parts number position term → HasPosting (collection_told parts) term number position
posting_from_token parts number position term t = record {
  document = document_told parts.entries number t.row;
  numbered = document_at parts number t.row t.numbered;
  entry = token_positioned parts.entries number t.row.tokens position t.below ∙ ap Some t.token;
}

pub token_from_posting : (parts : Parts) (number position : ℕ) (term : List ℕ) → HasPosting (collection_told parts) term number position → IsToken parts number position term
token_from_posting parts number position term h =
    elim (slice_get_cases parts.rows number).1 [
      | inl found ↦
          let row = found.0 in
          let numbered : slice_get parts.rows number ≡ Some row = found.2 in
          let same : h.document ≡ document_told parts.entries number row = injected (sym h.numbered ∙ document_at parts number row numbered) in
          let entry : slice_get (tokens_told parts.entries number row.tokens) position ≡ Some (Some term) = ap (λ (d : Document). slice_get d.tokens position) (sym same) ∙ h.entry in
          let below : position < row.tokens = omega (arith, slice_get_within _ position (Some term) entry, length-tokens_told parts.entries number row.tokens) in
          record {
            row = row;
            numbered = numbered;
            below = below;
            token = injected (sym (token_positioned parts.entries number row.tokens position below) ∙ entry);
          }
      | inr past ↦ absurd (cc (document_numbered parts.entries 0 parts.rows number, h.numbered, past.1))
    ]

-- a text is not below itself
pub not_less_itself : (text : List ℕ) → slice_cmp nat_cmp text text ≡ Less → ⊥
not_less_itself text less =
    let e : Less ≡ Greater = sym less ∙ nat_list_cmp_total.antisymm text text ∙ ap ordering_reverse less in
    absurd (cc e)

-- the element of a list inside it needs no default
pub same_default : {A : Type 0} (xs : List A) (i : ℕ) (d e : A) → i < length xs → get_or xs i d ≡ get_or xs i e
same_default xs i d e below = get_or_from_slice_get xs i (get_or xs i e) d (slice_get-get_or xs i e below)

pub get_or_mapped : (entries : List DictionaryEntry) (i : ℕ) (entry : DictionaryEntry) → i < length entries → get_or entries i entry ≡ entry → get_or (terms_of entries) i [] ≡ entry.term
get_or_mapped entries i entry below at_i =
    get_or-map (λ (e : DictionaryEntry). e.term) entries i entry [] below ∙ ap (λ (e : DictionaryEntry). e.term) at_i

-- two places of an ascending list with one text are one
pub same_place : (texts : List (List ℕ)) (i j : ℕ) (d : List ℕ) → IsAscending texts → i < length texts → j < length texts → get_or texts i d ≡ get_or texts j d → i ≡ j
same_place texts i j d ascending below below' same =
    elim (cases_lt i j) [
      | inl less ↦ absurd (not_less_itself (get_or texts j d) (ap (λ (x : List ℕ). slice_cmp nat_cmp x (get_or texts j d)) (sym same) ∙ Less-from_sorted (slice_cmp nat_cmp) texts i j d ascending less below'))
      | inr least ↦ elim (cases_lt j i) [
        | inl less ↦ absurd (not_less_itself (get_or texts i d) (ap (λ (x : List ℕ). slice_cmp nat_cmp x (get_or texts i d)) same ∙ Less-from_sorted (slice_cmp nat_cmp) texts j i d ascending less below))
        | inr most ↦ omega arith
      ]
    ]

-- two entries of a dictionary with one term are one
pub same_entry_of_term : (entries : List DictionaryEntry) (one other : DictionaryEntry) → IsAscending (terms_of entries) → Contains entries one → Contains entries other → one.term ≡ other.term → one ≡ other
same_entry_of_term entries one other ascending (i, below, at_i) (j, below', at_j) same =
    let term = λ (e : DictionaryEntry). e.term in
    let count = length-map entries term in
    let term_i : get_or (terms_of entries) i [] ≡ one.term = get_or_mapped entries i one below at_i in
    let term_j : get_or (terms_of entries) j [] ≡ other.term = get_or_mapped entries j other below' at_j in
    let e : i ≡ j = same_place (terms_of entries) i j [] ascending (omega (arith, count, below)) (omega (arith, count, below')) (term_i ∙ same ∙ sym term_j) in
    sym at_i ∙ same_default entries i one other below ∙ ap (λ n. get_or entries n other) e ∙ at_j

-- some place of a list that is not empty
pub contains_first : {A : Type 0} (xs : List A) → 0 < length xs → (x : A) × Contains xs x
contains_first [] some = absurd (omega (arith, some))
contains_first (x ∷ xs) some = (x, (0, omega (arith, some), refl))

-- a list of postings has a position
pub some_position : (postings : List Posting) → AreTermPostings postings → (number : ℕ) × ((position : ℕ) × HasPosition postings number position)
some_position postings are =
    let (posting, among) = contains_first postings are.some in
    let is : IsTermPosting posting = All-contains IsTermPosting postings posting are.each among in
    let (position, positioned) = contains_first posting.1 is.0 in
    (posting.0, (position, record { positions = posting.1; among = among; positioned = positioned }))

pub sum_of_counts : (entries : List DictionaryEntry) (from : ℕ) (rows : List DocumentRow) → sum_by (λ d. length d.tokens) (documents_told entries from rows) ≡ sum_by (λ row. row.tokens) rows
sum_of_counts entries from [] = refl
sum_of_counts entries from (row ∷ rows) =
    sum_by-cons (λ (d : Document). length d.tokens) (document_told entries from row) (documents_told entries (from + 1) rows)
    ∙ ap₂ (λ a b. a + b) (length-tokens_told entries from row.tokens) (sum_of_counts entries (from + 1) rows)
    ∙ sym (sum_by-cons (λ (r : DocumentRow). r.tokens) row rows)

pub length-documents_told : (entries : List DictionaryEntry) (from : ℕ) (rows : List DocumentRow) → length (documents_told entries from rows) ≡ length rows
length-documents_told entries from [] = refl
length-documents_told entries from (row ∷ rows) = ap suc (length-documents_told entries (from + 1) rows)

pub names_told : (entries : List DictionaryEntry) (from : ℕ) (rows : List DocumentRow) → All (λ row. IsName row.name) rows → All (λ d. IsName d.name) (documents_told entries from rows)
names_told entries from [] names = λ k d below. absurd (omega (arith, below))
names_told entries from (row ∷ rows) names =
    All-cons (λ (d : Document). IsName d.name) (document_told entries from row) (documents_told entries (from + 1) rows)
    (All-head (λ (r : DocumentRow). IsName r.name) row rows names)
    (names_told entries (from + 1) rows (All-tail (λ (r : DocumentRow). IsName r.name) row rows names))

module _ (parts : Parts) (lawful : AreLawful parts) where
  -- the posting of an entry is one of the collection
  pub posted_from_entry : (entry : DictionaryEntry) → Contains parts.entries entry → (number position : ℕ) → HasPosition entry.postings number position → HasPosting (collection_told parts) entry.term number position
  posted_from_entry entry among number position has =
      let is = All-contains (IsLawfulTerm parts) parts.entries entry lawful.terms among in
      let in_range = is.in_range number position has in
      posting_from_token parts number position entry.term (record {
        row = in_range.row;
        numbered = in_range.numbered;
        below = in_range.below;
        token = token_of_entry parts.entries number position entry (λ one other a b. lawful.apart one other number position a b) among has;
      })

  -- and the other way round
  pub told_from_posting : (term : List ℕ) (number position : ℕ) → HasPosting (collection_told parts) term number position → IsTold parts.entries number position term
  told_from_posting term number position h = told_from_token parts.entries number position term (token_from_posting parts number position term h).token

  pub entry_from_posted : (entry : DictionaryEntry) → Contains parts.entries entry → (number position : ℕ) → HasPosting (collection_told parts) entry.term number position → HasPosition entry.postings number position
  entry_from_posted entry among number position h =
      let told = told_from_posting entry.term number position h in
      let same = same_entry_of_term parts.entries told.entry entry lawful.ascending told.among among told.is in
      subst (λ (e : DictionaryEntry). HasPosition e.postings number position) same told.has

  pub entry_told : (entry : DictionaryEntry) → Contains parts.entries entry → IsEntryOf (collection_told parts) entry
  entry_told entry among = record {
    ordered = (All-contains (IsLawfulTerm parts) parts.entries entry lawful.terms among).ordered;
    posted = λ number position. (posted_from_entry entry among number position, entry_from_posted entry among number position);
  }

  pub term_contained : (entry : DictionaryEntry) → Contains parts.entries entry → Contains (terms_of parts.entries) entry.term
  term_contained entry (k, below, is) =
      let term = λ (e : DictionaryEntry). e.term in
      (k, omega (arith, below, length-map parts.entries term), get_or-map term parts.entries k entry entry.term below ∙ ap term is)

  pub vocabulary_told : IsVocabulary (collection_told parts) (terms_of parts.entries)
  vocabulary_told = record {
    ascending = lawful.ascending;
    posted = λ term among. posted_term term among;
    complete = λ term number position h.
        let told = told_from_posting term number position h in
        subst (λ (t : List ℕ). Contains (terms_of parts.entries) t) told.is (term_contained told.entry told.among);
  }
    where
      posted_term : (term : List ℕ) → Contains (terms_of parts.entries) term → (number : ℕ) × ((position : ℕ) × HasPosting (collection_told parts) term number position)
      posted_term term among =
          let found = entry_of_contained parts.entries term among in
          let here : Contains parts.entries found.entry = (found.place, found.within, found.there) in
          let is = All-contains (IsLawfulTerm parts) parts.entries found.entry lawful.terms here in
          let (number, (position, has)) = some_position found.entry.postings is.ordered in
          (number, (position, subst (λ (t : List ℕ). HasPosting (collection_told parts) t number position) found.has (posted_from_entry found.entry here number position has)))

  pub parts_told : ArePartsOf (collection_told parts) parts
  parts_told = record {
    stop = refl;
    rows = sym (rows_told parts.entries 0 parts.rows);
    vocabulary = vocabulary_told;
    entries = λ k d below. entry_told (get_or parts.entries k d) (Contains-get_or parts.entries k d below);
  }

  -- a token is lawful
  pub lawful_token : (number position : ℕ) (document : Document) (entry : Entry) → slice_get (documents_told parts.entries 0 parts.rows) number ≡ Some document → slice_get document.tokens position ≡ Some entry → IsLawfulEntry parts.stop entry
  lawful_token number position document None at_number at_position = tt
  lawful_token number position document (Some term) at_number at_position =
      let told = told_from_posting term number position (record { document = document; numbered = at_number; entry = at_position }) in
      let is = All-contains (IsLawfulTerm parts) parts.entries told.entry lawful.terms told.among in
      subst (λ (t : List ℕ). IsTerm t × ¬ (Contains parts.stop t)) told.is (is.term, is.no_stop)

  pub lawful_told : IsLawful (collection_told parts)
  lawful_told = record {
    names = names_told parts.entries 0 parts.rows lawful.names;
    stop_terms = lawful.stop_terms;
    stop_ascending = lawful.stop_ascending;
    entries = λ k d below. λ j e below'.
        let documents = documents_told parts.entries 0 parts.rows in
        let document = get_or documents k d in
        lawful_token k j document (get_or document.tokens j e) (slice_get-get_or documents k d below) (slice_get-get_or document.tokens j e below');
    few_stop_terms = lawful.few_stop_terms;
    few_documents = omega (arith, lawful.few_documents, length-documents_told parts.entries 0 parts.rows);
    few_tokens = omega (arith, lawful.few_tokens, sum_of_counts parts.entries 0 parts.rows);
  }

  pub has_collection : HasCollection parts
  has_collection = record { collection = collection_told parts; lawful = lawful_told; of_collection = parts_told }
