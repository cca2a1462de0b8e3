-- Each token has its own number, and parts in order tell no token twice just where they are lawful.
use Rattle.std.proofs.Common.{◌≡◌, ℕ, ◌+◌, ◌<◌, ◌≤◌, List, [], ◌∷◌, ◌++◌, ◌^◌, length, map, take, Less, All, Contains, sum_by, sym, ap, ◌∙◌, subst, append_assoc, inl, inr, arith}
use Rattle.std.proofs.lemmas.Bool.{cases_order}
use Rattle.std.proofs.lemmas.List.{append-nil, map-append, map_push, take-take}
use Rattle.std.proofs.lemmas.List.Concat.{flat_map-append}
use Rattle.std.proofs.lemmas.List.Elements.{All-nil, All-contains, Contains-get_or}
use Rattle.std.proofs.lemmas.List.Sums.{sum_by-take-le}
use Rattle.std.specs.Cmp.Lexicographic.{slice_cmp}
use Rattle.std.specs.List.Sorted.{IsStrictlySortedBy}
use Rattle.std.specs.Ordering.{nat_cmp}
use Rattle.ix_text.specs.ByteOrder.{IsAscending}
use Rattle.ix_text.specs.Collections.{IsName}
use Rattle.ix_text.specs.Parts.{DictionaryEntry, DocumentRow, HasPosition, IsTermPosting, AreTermPostings, Parts, Posting, terms_of}
use Rattle.ix_text.specs.PartsLaws.{AreLawful, IsInRange, IsLawfulTerm}
use Rattle.ix_text.specs.StopSets.{IsStopSet}
use Rattle.ix_text.specs.TokenLaws.{AreInOrder}
use Rattle.ix_text.specs.TokenNumbers.{AreDistinct, numbers_of_entries, numbers_of_posting, numbers_of_postings, token_number, tokens_before}
use Rattle.ix_text.proofs.AscendingLists.{all_below, contains_none, contains_map, contained_from_map}
use Rattle.ix_text.proofs.CollectionTold.{not_less_itself}
use Rattle.ix_text.proofs.DistinctNumbers.{KeysDiffer, contained_from_flat_map, contains_flat_map, distinct_flat_map, one_source, rising_distinct, rising_keys_differ}
use Rattle.ix_text.proofs.TokensBefore.{count_of, tokens_before_next}

-- ---- numbers of tokens in range

before_less : (rows : List DocumentRow) (one other : ℕ) → one ≤ other → tokens_before rows one ≤ tokens_before rows other
before_less rows one other h =
    let e : tokens_before (take other rows) one ≡ tokens_before rows one = ap (sum_by count_of) (take-take one other rows h) in
    omega (arith, sum_by-take-le count_of (take other rows) one, e)

-- it stands before the next document
pub number_before_next : (rows : List DocumentRow) (document position : ℕ) → IsInRange rows document position → token_number rows document position < tokens_before rows (document + 1)
number_before_next rows document position range = omega (arith, tokens_before_next rows document range.row range.numbered, range.below)

-- it is below the number of all tokens
pub number_below : (rows : List DocumentRow) (document position : ℕ) → IsInRange rows document position → token_number rows document position < sum_by (λ row. row.tokens) rows
number_below rows document position range = omega (arith, number_before_next rows document position range, sum_by-take-le count_of rows (document + 1))

earlier_number : (rows : List DocumentRow) (one other p q : ℕ) → IsInRange rows one p → one < other → token_number rows one p < token_number rows other q
earlier_number rows one other p q range less = omega (arith, number_before_next rows one p range, before_less rows (one + 1) other (omega arith))

-- one number is one token
pub same_token : (rows : List DocumentRow) (one other p q : ℕ) → IsInRange rows one p → IsInRange rows other q → token_number rows one p ≡ token_number rows other q → (one ≡ other) × (p ≡ q)
same_token rows one other p q at_p at_q same =
    elim (cases_order one other) [
      | inl documents ↦ let e = ap (tokens_before rows) documents in (documents, omega (arith, e, same))
      | inr (inl less) ↦ absurd (omega (arith, same, earlier_number rows one other p q at_p less))
      | inr (inr more) ↦ absurd (omega (arith, same, earlier_number rows other one q p at_q more))
    ]

-- ---- the numbers that postings tell

-- some position of the postings has the number
pub record TellsNumber (rows : List DocumentRow) (postings : List Posting) (number : ℕ) : Type 0 where
  pub document : ℕ
  pub position : ℕ
  pub has : HasPosition postings document position
  pub numbered : token_number rows document position ≡ number

pub number_told : (rows : List DocumentRow) (postings : List Posting) (number : ℕ) → Contains (numbers_of_postings rows postings) number → TellsNumber rows postings number
number_told rows postings number has =
    let (posting, among, there) = contained_from_flat_map (numbers_of_posting rows) postings number has in
    let (position, positioned, same) = contained_from_map (token_number rows posting.0) posting.1 number there in
    record {
      document = posting.0;
      position = position;
      has = record { positions = posting.1; among = among; positioned = positioned };
      numbered = same;
    }

pub number_of_position : (rows : List DocumentRow) (postings : List Posting) (document position : ℕ) → HasPosition postings document position → Contains (numbers_of_postings rows postings) (token_number rows document position)
number_of_position rows postings document position has =
    contains_flat_map (numbers_of_posting rows) postings (document, has.positions) (token_number rows document position) has.among
    (contains_map (token_number rows document) has.positions position has.positioned)

-- the positions of postings are in range
abbrev pub AreInRange : List DocumentRow → List Posting → Type 0
AreInRange rows postings = (document position : ℕ) → HasPosition postings document position → IsInRange rows document position

pub numbers_below : (rows : List DocumentRow) (postings : List Posting) → AreInRange rows postings → All (λ number. number < sum_by (λ row. row.tokens) rows) (numbers_of_postings rows postings)
numbers_below rows postings range = λ k d within.
    let told = number_told rows postings _ (Contains-get_or (numbers_of_postings rows postings) k d within) in
    let below = number_below rows told.document told.position (range told.document told.position told.has) in
    omega (arith, told.numbered, below)

-- ---- a piece more

pub numbers_of_posting-push : (rows : List DocumentRow) (document : ℕ) (positions : List ℕ) (position : ℕ)
    → numbers_of_posting rows (document, positions ++ position ∷ []) ≡ numbers_of_posting rows (document, positions) ++ token_number rows document position ∷ []
numbers_of_posting-push rows document positions position = map_push (token_number rows document) positions position

pub numbers_of_postings-append : (rows : List DocumentRow) (postings more : List Posting) → numbers_of_postings rows (postings ++ more) ≡ numbers_of_postings rows postings ++ numbers_of_postings rows more
numbers_of_postings-append rows postings more = flat_map-append (numbers_of_posting rows) postings more

pub numbers_of_postings-push : (rows : List DocumentRow) (postings : List Posting) (posting : Posting) → numbers_of_postings rows (postings ++ posting ∷ []) ≡ numbers_of_postings rows postings ++ numbers_of_posting rows posting
numbers_of_postings-push rows postings posting =
    numbers_of_postings-append rows postings (posting ∷ []) ∙ ap (λ (more : List ℕ). numbers_of_postings rows postings ++ more) (append-nil (numbers_of_posting rows posting))

pub numbers_of_entries-append : (rows : List DocumentRow) (entries more : List DictionaryEntry) → numbers_of_entries rows (entries ++ more) ≡ numbers_of_entries rows entries ++ numbers_of_entries rows more
numbers_of_entries-append rows entries more = flat_map-append (λ (entry : DictionaryEntry). numbers_of_postings rows entry.postings) entries more

pub numbers_of_entries-push : (rows : List DocumentRow) (entries : List DictionaryEntry) (entry : DictionaryEntry) → numbers_of_entries rows (entries ++ entry ∷ []) ≡ numbers_of_entries rows entries ++ numbers_of_postings rows entry.postings
numbers_of_entries-push rows entries entry =
    numbers_of_entries-append rows entries (entry ∷ []) ∙ ap (λ (more : List ℕ). numbers_of_entries rows entries ++ more) (append-nil (numbers_of_postings rows entry.postings))

-- ---- the tokens told so far

-- those of the entries, then of the postings of the entry at hand, then of the positions of the posting at hand
abbrev pub numbers_told : List DocumentRow → List DictionaryEntry → List Posting → ℕ → List ℕ → List ℕ
numbers_told rows entries postings document positions = numbers_of_entries rows entries ++ (numbers_of_postings rows postings ++ numbers_of_posting rows (document, positions))

-- the entry at hand, with what comes behind the position at hand
abbrev pub entry_at : List ℕ → List Posting → ℕ → List ℕ → ℕ → List ℕ → List Posting → DictionaryEntry
entry_at term postings document positions position more later = record { term = term; postings = postings ++ (document, positions ++ position ∷ more) ∷ later }

-- the number at hand stands behind those told
numbers_at_hand : (rows : List DocumentRow) (entries : List DictionaryEntry) (term : List ℕ) (postings : List Posting) (document : ℕ) (positions : List ℕ) (position : ℕ) (more : List ℕ) (later : List Posting) (rest : List DictionaryEntry)
    → numbers_of_entries rows (entries ++ entry_at term postings document positions position more later ∷ rest)
    ≡ numbers_told rows entries postings document positions ++ token_number rows document position ∷ (map (token_number rows document) more ++ (numbers_of_postings rows later ++ numbers_of_entries rows rest))
numbers_at_hand rows entries term postings document positions position more later rest =
    simp (
      numbers_of_entries-append rows entries (entry_at term postings document positions position more later ∷ rest),
      numbers_of_postings-append rows postings ((document, positions ++ position ∷ more) ∷ later),
      map-append,
      append_assoc,
    )

-- ---- distinct numbers

-- the positions of one term are distinct tokens
pub postings_distinct : (rows : List DocumentRow) (postings : List Posting) → AreTermPostings postings → AreInRange rows postings → AreDistinct (numbers_of_postings rows postings)
postings_distinct rows postings are range =
    distinct_flat_map (numbers_of_posting rows) (λ (posting : Posting). posting.0) postings
    (rising_keys_differ (numbers_of_posting rows) (λ (posting : Posting). posting.0) postings are.ascending)
    (λ posting among. let is : IsTermPosting posting = All-contains IsTermPosting postings posting are.each among in rising_distinct (tokens_before rows posting.0) posting.1 is.1)
    (λ one other number at_one at_other in_one in_other.
    let (p, has_p, is_p) = contained_from_map (token_number rows one.0) one.1 number in_one in
    let (q, has_q, is_q) = contained_from_map (token_number rows other.0) other.1 number in_other in
    (same_token rows one.0 other.0 p q (range one.0 p (record { positions = one.1; among = at_one; positioned = has_p })) (range other.0 q (record { positions = other.1; among = at_other; positioned = has_q })) (is_p ∙ sym is_q)).0)

-- terms that ascend differ
terms_differ : (f : DictionaryEntry → List ℕ) (entries : List DictionaryEntry) → IsAscending (terms_of entries) → KeysDiffer f (λ (entry : DictionaryEntry). entry.term) entries
unfolding IsStrictlySortedBy
terms_differ f [] ascending = tt
terms_differ f (entry ∷ entries) ascending = (
  λ other among same.
      let term = λ (e : DictionaryEntry). e.term in
      let less : slice_cmp nat_cmp entry.term other.term ≡ Less = all_below (slice_cmp nat_cmp) entry.term (terms_of entries) other.term ascending.0 (contains_map term entries other among) in
      not_less_itself other.term (subst (λ (t : List ℕ). slice_cmp nat_cmp t other.term ≡ Less) same less),
  terms_differ f entries ascending.1,
)

ascending_none : IsAscending []
unfolding IsStrictlySortedBy
ascending_none = tt

-- a stop set and rows, and no term
pub lawful_without_terms : (stop : List (List ℕ)) (rows : List DocumentRow) → IsStopSet stop → All (λ row. IsName row.name) rows → length rows ≤ 2 ^ 28 → sum_by (λ row. row.tokens) rows ≤ 2 ^ 28
    → AreLawful (record { stop = stop; rows = rows; entries = [] })
lawful_without_terms stop rows is names documents tokens = record {
  stop_terms = is.terms;
  stop_ascending = is.ascending;
  few_stop_terms = is.few;
  names = names;
  few_documents = documents;
  few_tokens = tokens;
  ascending = ascending_none;
  terms = All-nil (IsLawfulTerm (record { stop = stop; rows = rows; entries = [] }));
  apart = λ one other number position none _ _ _. absurd (contains_none _ none);
}

module _ (parts : Parts) where
  abbrev numbers_of : DictionaryEntry → List ℕ
  numbers_of entry = numbers_of_postings parts.rows entry.postings

  -- the number of a position under two terms stands in the lists of two entries, so these are one
  pub lawful_if_distinct : AreInOrder parts → AreDistinct (numbers_of_entries parts.rows parts.entries) → AreLawful parts
  lawful_if_distinct order distinct = record {
    stop_terms = order.without_terms.stop_terms;
    stop_ascending = order.without_terms.stop_ascending;
    few_stop_terms = order.without_terms.few_stop_terms;
    names = order.without_terms.names;
    few_documents = order.without_terms.few_documents;
    few_tokens = order.without_terms.few_tokens;
    ascending = order.ascending;
    terms = order.terms;
    apart = λ one other number position at_one at_other has_one has_other.
        ap (λ (entry : DictionaryEntry). entry.term)
        (one_source numbers_of parts.entries one other (token_number parts.rows number position) distinct at_one at_other
        (number_of_position parts.rows one.postings number position has_one) (number_of_position parts.rows other.postings number position has_other));
  }

  pub lawful_in_order : AreLawful parts → AreInOrder parts
  lawful_in_order lawful = record {
    without_terms = lawful_without_terms parts.stop parts.rows (record { few = lawful.few_stop_terms; ascending = lawful.stop_ascending; terms = lawful.stop_terms }) lawful.names lawful.few_documents lawful.few_tokens;
    ascending = lawful.ascending;
    terms = lawful.terms;
  }

  module _ (lawful : AreLawful parts) where
    term_at : (entry : DictionaryEntry) → Contains parts.entries entry → IsLawfulTerm parts entry
    term_at entry among = All-contains (IsLawfulTerm parts) parts.entries entry lawful.terms among

    -- two entries that tell one number have one term
    one_term : (one other : DictionaryEntry) (number : ℕ) → Contains parts.entries one → Contains parts.entries other → Contains (numbers_of one) number → Contains (numbers_of other) number → one.term ≡ other.term
    one_term one other number at_one at_other in_one in_other =
        let t = number_told parts.rows one.postings number in_one in
        let u = number_told parts.rows other.postings number in_other in
        let range_t = (term_at one at_one).in_range t.document t.position t.has in
        let range_u = (term_at other at_other).in_range u.document u.position u.has in
        let (documents, positions) = same_token parts.rows t.document u.document t.position u.position range_t range_u (t.numbered ∙ sym u.numbered) in
        let here : HasPosition other.postings t.document t.position = subst (λ (d : ℕ). HasPosition other.postings d t.position) (sym documents) (subst (HasPosition other.postings u.document) (sym positions) u.has) in
        lawful.apart one other t.document t.position at_one at_other t.has here

    pub lawful_distinct : AreDistinct (numbers_of_entries parts.rows parts.entries)
    lawful_distinct =
        distinct_flat_map numbers_of (λ (entry : DictionaryEntry). entry.term) parts.entries (terms_differ numbers_of parts.entries lawful.ascending)
        (λ entry among. let is = term_at entry among in postings_distinct parts.rows entry.postings is.ordered is.in_range)
        one_term
