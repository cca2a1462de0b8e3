-- The rows of the terms that match: each once, in order, and counted.
use Rattle.std.proofs.Common.{◌≡◌, ◌∙◌, ℕ, zero, suc, ◌+◌, ◌<◌, ◌⊎◌, inl, inr, List, [], ◌∷◌, ◌++◌, map, length, take, get_or, slice_get, length-append, Option, None, Some, option_map, All, Contains, Less, refl, sym, ap, ap₂, subst, arith, append-nil}
use Rattle.std.specs.Cmp.Lexicographic.{slice_cmp}
use Rattle.std.specs.Ordering.{nat_cmp}
use Rattle.std.specs.List.{AllByRecursion, AllPairs}
use Rattle.std.specs.List.Sorted.{IsStrictlySortedBy}
use Rattle.std.proofs.lemmas.Grind.{flat_map-append}
use Rattle.std.proofs.lemmas.List.{length-map, map-append, take_more}
use Rattle.std.proofs.lemmas.List.Elements.{All-contains, Contains-get_or, recursion_from_All}
use Rattle.std.proofs.lemmas.List.Kept.{AllPairs-from_increasing}
use Rattle.std.proofs.lemmas.Map.Keys.{Less-from_sorted}
use Rattle.std.proofs.lemmas.Option.{get_or_from_slice_get, slice_get-get_or, slice_get-map, slice_get_cases, slice_get_within}
use Rattle.ix_text.specs.ByteOrder.{IsAscending}
use Rattle.ix_text.specs.Collections.{Collection}
use Rattle.ix_text.specs.Parts.{ArePartsOf, DictionaryEntry, HasPosition, IsEntryOf, IsTermPosting, Parts, Posting, terms_of}
use Rattle.ix_file.specs.Opened.{document_counts}
use Rattle.ix_gram.specs.Expanding.{AreMatches, IsMatch}
use Rattle.ix_gram.specs.Patterns.{Matches}
use Rattle.ix_ask.specs.Listing.{AreRows, IsCounted, IsIn, IsTermOf, TermRow, at_most_one, picked, row_line, row_lines, row_terms, term_rows}

some_same : {A : Type 0} {x y : A} → Some x ≡ Some y → x ≡ y
some_same e = cc

-- ---- elements

contains_now : {A : Type 0} (x : A) (xs : List A) → Contains (x ∷ xs) x
contains_now x xs = (0, omega arith, refl)

contains_later : {A : Type 0} (x : A) (xs : List A) (y : A) → Contains xs y → Contains (x ∷ xs) y
contains_later x xs y (k, low, is) = (suc k, omega arith, is)

contains_cases : {A : Type 0} (x : A) (xs : List A) (y : A) → Contains (x ∷ xs) y → (x ≡ y) ⊎ Contains xs y
contains_cases x xs y (zero, low, is) = inl is
contains_cases x xs y (suc k, low, is) = inr (k, omega arith, is)

contains_none : {A : Type 0} (y : A) → ¬ (Contains [] y)
contains_none y (k, low, is) = omega arith

pub contains_map : {A B : Type 0} (f : A → B) (xs : List A) (x : A) → Contains xs x → Contains (map f xs) (f x)
contains_map f [] x has = absurd (contains_none x has)
contains_map f (y ∷ xs) x has =
    elim (contains_cases y xs x has) [
      | inl same ↦ subst (λ z. Contains (f y ∷ map f xs) (f z)) same (contains_now (f y) (map f xs))
      | inr later ↦ contains_later (f y) (map f xs) (f x) (contains_map f xs x later)
    ]

contained_from_map : {A B : Type 0} (f : A → B) (xs : List A) (y : B) → Contains (map f xs) y → (x : A) × Contains xs x × (f x ≡ y)
contained_from_map f [] y has = absurd (contains_none y has)
contained_from_map f (x ∷ xs) y has =
    elim (contains_cases (f x) (map f xs) y has) [
      | inl same ↦ (x, contains_now x xs, same)
      | inr later ↦ let (w, among, same) = contained_from_map f xs y later in (w, contains_later x xs w among, same)
    ]

contains_first : {A : Type 0} (xs : List A) → 0 < length xs → (x : A) × Contains xs x
contains_first [] some = absurd (omega arith)
contains_first (x ∷ xs) some = (x, contains_now x xs)

numbered : {A : Type 0} (xs : List A) (x : A) → Contains xs x → (number : ℕ) × (slice_get xs number ≡ Some x)
numbered xs x (k, low, is) = (k, slice_get-get_or xs k x low ∙ ap Some is)

contained : {A : Type 0} (xs : List A) (number : ℕ) (x : A) → slice_get xs number ≡ Some x → Contains xs x
contained xs number x at = (number, slice_get_within xs number x at, get_or_from_slice_get xs number x x at)

-- ---- what is picked

one_mapped : {A B : Type 0} (f : A → B) (o : Option A) → map f (at_most_one o) ≡ at_most_one (option_map f o)
one_mapped f None = refl
one_mapped f (Some x) = refl

map_picked : {A B : Type 0} (f : A → B) (xs : List A) (numbers : List ℕ) → map f (picked xs numbers) ≡ picked (map f xs) numbers
map_picked f xs [] = refl
map_picked f xs (n ∷ numbers) =
    map-append f (at_most_one (slice_get xs n)) (picked xs numbers)
    ∙ ap₂ (λ one rest. one ++ rest) (one_mapped f (slice_get xs n) ∙ ap at_most_one (sym (slice_get-map f xs n))) (map_picked f xs numbers)

picked_from : {A : Type 0} (xs : List A) (numbers : List ℕ) (x : A) → Contains (picked xs numbers) x → (number : ℕ) × Contains numbers number × (slice_get xs number ≡ Some x)
picked_from xs [] x has = absurd (contains_none x has)
picked_from {A} xs (n ∷ numbers) x has = go (slice_get xs n) refl (picked_from xs numbers x) has
  where
    go : (o : Option A) → slice_get xs n ≡ o → (Contains (picked xs numbers) x → (number : ℕ) × Contains numbers number × (slice_get xs number ≡ Some x))
        → Contains (at_most_one o ++ picked xs numbers) x → (number : ℕ) × Contains (n ∷ numbers) number × (slice_get xs number ≡ Some x)
    go None at rest later = let (number, among, at_it) = rest later in (number, contains_later n numbers number among, at_it)
    go (Some y) at rest some =
        elim (contains_cases y (picked xs numbers) x some) [
          | inl same ↦ (n, contains_now n numbers, at ∙ ap Some same)
          | inr later ↦ let (number, among, at_it) = rest later in (number, contains_later n numbers number among, at_it)
        ]

behind_one : {A : Type 0} (o : Option A) (xs : List A) (x : A) → Contains xs x → Contains (at_most_one o ++ xs) x
behind_one None xs x has = has
behind_one (Some y) xs x has = contains_later y xs x has

picked_has : {A : Type 0} (xs : List A) (numbers : List ℕ) (number : ℕ) (x : A) → Contains numbers number → slice_get xs number ≡ Some x → Contains (picked xs numbers) x
picked_has xs [] number x among at = absurd (contains_none number among)
picked_has xs (n ∷ numbers) number x among at =
    elim (contains_cases n numbers number among) [
      | inl same ↦ subst (λ o. Contains (at_most_one o ++ picked xs numbers) x) (sym (ap (slice_get xs) same ∙ at)) (contains_now x (picked xs numbers))
      | inr later ↦ behind_one (slice_get xs n) (picked xs numbers) x (picked_has xs numbers number x later at)
    ]

one_counted : {A : Type 0} (xs : List A) (n : ℕ) → n < length xs → length (at_most_one (slice_get xs n)) ≡ 1
one_counted xs n below =
    elim (slice_get_cases xs n).1 [
      | inl (x, low, at, same) ↦ ap (λ o. length (at_most_one o)) at
      | inr (high, none) ↦ absurd (omega arith)
    ]

length_picked : {A : Type 0} (xs : List A) (numbers : List ℕ) → AllByRecursion (λ number. number < length xs) numbers → length (picked xs numbers) ≡ length numbers
length_picked xs [] below = refl
length_picked xs (n ∷ numbers) below =
    let one = one_counted xs n below.0 in
    let rest = length_picked xs numbers below.1 in
    let both = length-append (at_most_one (slice_get xs n)) (picked xs numbers) in
    omega (arith, one, rest, both)

-- ---- their order

all_later : (n : ℕ) (numbers : List ℕ) → AllPairs (λ x y. x < y) (n ∷ numbers) → All (λ m. n < m) numbers
all_later n numbers pairs = λ k d below. pairs 0 (suc k) d (omega arith) (omega (arith, below))

pairs_later : (n : ℕ) (numbers : List ℕ) → AllPairs (λ x y. x < y) (n ∷ numbers) → AllPairs (λ x y. x < y) numbers
pairs_later n numbers pairs = λ i j d before below. pairs (suc i) (suc j) d (omega (arith, before)) (omega (arith, below))

ascending_none : IsAscending []
unfolding IsStrictlySortedBy
ascending_none = tt

ascending_cons : (x : List ℕ) (xs : List (List ℕ)) → AllByRecursion (λ y. slice_cmp nat_cmp x y ≡ Less) xs → IsAscending xs → IsAscending (x ∷ xs)
unfolding IsStrictlySortedBy
ascending_cons x xs above rest = (above, rest)

module _ (texts : List (List ℕ)) (ascending : IsAscending texts) where
  below_text : (n m : ℕ) (x y : List ℕ) → n < m → slice_get texts n ≡ Some x → slice_get texts m ≡ Some y → slice_cmp nat_cmp x y ≡ Less
  below_text n m x y before at_n at_m =
      ap₂ (slice_cmp nat_cmp) (sym (get_or_from_slice_get texts n x [] at_n)) (sym (get_or_from_slice_get texts m y [] at_m))
      ∙ Less-from_sorted (slice_cmp nat_cmp) texts n m [] ascending before (slice_get_within texts m y at_m)

  all_above : (n : ℕ) (x : List ℕ) (numbers : List ℕ) → slice_get texts n ≡ Some x → AllByRecursion (λ m. n < m) numbers → AllByRecursion (λ y. slice_cmp nat_cmp x y ≡ Less) (picked texts numbers)
  all_above n x [] at above = tt
  all_above n x (m ∷ numbers) at above = go (slice_get texts m) refl (all_above n x numbers at above.1)
    where
      go : (o : Option (List ℕ)) → slice_get texts m ≡ o → AllByRecursion (λ y. slice_cmp nat_cmp x y ≡ Less) (picked texts numbers) → AllByRecursion (λ y. slice_cmp nat_cmp x y ≡ Less) (at_most_one o ++ picked texts numbers)
      go None at_m rest = rest
      go (Some y) at_m rest = (below_text n m x y above.0 at at_m, rest)

  picked_ascending : (numbers : List ℕ) → AllPairs (λ x y. x < y) numbers → IsAscending (picked texts numbers)
  picked_ascending [] pairs = ascending_none
  picked_ascending (n ∷ numbers) pairs = go (slice_get texts n) refl (picked_ascending numbers (pairs_later n numbers pairs))
    where
      go : (o : Option (List ℕ)) → slice_get texts n ≡ o → IsAscending (picked texts numbers) → IsAscending (at_most_one o ++ picked texts numbers)
      go None at rest = rest
      go (Some x) at rest = ascending_cons x (picked texts numbers) (all_above n x numbers at (recursion_from_All (λ m. n < m) numbers (all_later n numbers pairs))) rest

-- ---- rows

terms_of_rows : (entries : List DictionaryEntry) → row_terms (term_rows entries) ≡ terms_of entries
terms_of_rows [] = refl
terms_of_rows (e ∷ entries) = ap (λ terms. e.term ∷ terms) (terms_of_rows entries)

-- the row of a number, as two calls tell it
pub row_at : (entries : List DictionaryEntry) (number : ℕ) (term : List ℕ) (count : ℕ) → slice_get (terms_of entries) number ≡ Some term → slice_get (document_counts entries) number ≡ Some count
    → slice_get (term_rows entries) number ≡ Some (record { term = term; documents = count })
row_at entries number term count at_term at_count =
    let term_in = λ (e : DictionaryEntry). e.term in
    let count_in = λ (e : DictionaryEntry). length e.postings in
    let row_in = λ (e : DictionaryEntry). let row : TermRow = record { term = e.term; documents = length e.postings } in row in
    slice_get-map row_in entries number ∙ go (slice_get entries number) (sym (slice_get-map term_in entries number) ∙ at_term) (sym (slice_get-map count_in entries number) ∙ at_count)
  where
    go : (o : Option DictionaryEntry) → option_map (λ (e : DictionaryEntry). e.term) o ≡ Some term → option_map (λ (e : DictionaryEntry). length e.postings) o ≡ Some count
        → option_map (λ (e : DictionaryEntry). let row : TermRow = record { term = e.term; documents = length e.postings } in row) o ≡ Some (record { term = term; documents = count })
    go None one two = absurd (cc)
    go (Some e) one two = ap₂ (λ (t : List ℕ) (n : ℕ). let row : TermRow = record { term = t; documents = n } in Some row) (some_same one) (some_same two)

-- the line of a row more
pub row_lines_more : (rows : List TermRow) (numbers : List ℕ) (i : ℕ) (row : TermRow) → i < length numbers → slice_get rows (get_or numbers i 0) ≡ Some row
    → row_lines (picked rows (take (i + 1) numbers)) ≡ row_lines (picked rows (take i numbers)) ++ row_line row
row_lines_more rows numbers i row within found =
    let pick = λ (number : ℕ). at_most_one (slice_get rows number) in
    let before = picked rows (take i numbers) in
    ap (λ ns. row_lines (picked rows ns)) (take_more numbers i 0 within)
    ∙ ap row_lines (flat_map-append pick (take i numbers) (get_or numbers i 0 ∷ []))
    ∙ flat_map-append row_line before (pick (get_or numbers i 0) ++ [])
    ∙ ap (λ o. row_lines before ++ row_lines (at_most_one o ++ [])) found
    ∙ ap (λ line. row_lines before ++ line) (append-nil (row_line row))

-- in how many documents a term is
counted_entry : (collection : Collection) (entry : DictionaryEntry) → IsEntryOf collection entry → IsCounted collection (record { term = entry.term; documents = length entry.postings })
counted_entry collection entry is = record {
  numbers = map (λ posting. posting.0) entry.postings;
  holders = record { ascending = is.ordered.ascending; exact = λ number. (told number, there number) };
  counted = sym (length-map entry.postings (λ posting. posting.0));
}
  where
    told : (number : ℕ) → Contains (map (λ posting. posting.0) entry.postings) number → IsIn collection entry.term number
    told number has =
        let (posting, among, same) = contained_from_map (λ (p : Posting). p.0) entry.postings number has in
        let each : IsTermPosting posting = All-contains IsTermPosting entry.postings posting is.ordered.each among in
        let (position, positioned) = contains_first posting.1 each.0 in
        (position, (is.posted number position).0 (record { positions = posting.1; among = subst (λ n. Contains entry.postings (n, posting.1)) same among; positioned = positioned }))

    there : (number : ℕ) → IsIn collection entry.term number → Contains (map (λ posting. posting.0) entry.postings) number
    there number (position, posted) =
        let has : HasPosition entry.postings number position = (is.posted number position).1 posted in
        contains_map (λ (p : Posting). p.0) entry.postings (number, has.positions) has.among

-- the rows of the numbers that `expand` gives
module _ (collection : Collection) (parts : Parts) (pieces : List (List ℕ)) (numbers : List ℕ) (are : ArePartsOf collection parts) (matches : AreMatches (terms_of parts.entries) pieces numbers) where
  same_terms : row_terms (picked (term_rows parts.entries) numbers) ≡ picked (terms_of parts.entries) numbers
  same_terms = map_picked (λ (row : TermRow). row.term) (term_rows parts.entries) numbers ∙ ap (λ (ts : List (List ℕ)). picked ts numbers) (terms_of_rows parts.entries)

  listed_term : (term : List ℕ) → Contains (row_terms (picked (term_rows parts.entries) numbers)) term → IsTermOf collection term × Matches term pieces
  listed_term term has =
      let (number, among, at) = picked_from (terms_of parts.entries) numbers term (subst (λ (ts : List (List ℕ)). Contains ts term) same_terms has) in
      let found : IsMatch (terms_of parts.entries) pieces number = (matches.exact number).0 among in
      let is_it : found.term ≡ term = some_same (sym found.numbered ∙ at) in
      (are.vocabulary.posted term (contained (terms_of parts.entries) number term at), subst (λ (t : List ℕ). Matches t pieces) is_it found.matched)

  term_listed : (term : List ℕ) → IsTermOf collection term × Matches term pieces → Contains (row_terms (picked (term_rows parts.entries) numbers)) term
  term_listed term ((number, (position, posted)), matched) =
      let (place, at) = numbered (terms_of parts.entries) term (are.vocabulary.complete term number position posted) in
      let among = (matches.exact place).1 (record { term = term; numbered = at; matched = matched }) in
      subst (λ (ts : List (List ℕ)). Contains ts term) (sym same_terms) (picked_has (terms_of parts.entries) numbers place term among at)

  counted_row : (row : TermRow) → Contains (picked (term_rows parts.entries) numbers) row → IsCounted collection row
  counted_row row has =
      let row_in = λ (e : DictionaryEntry). let r : TermRow = record { term = e.term; documents = length e.postings } in r in
      let (number, among, at) = picked_from (term_rows parts.entries) numbers row has in
      let (entry, stands, is) = contained_from_map row_in parts.entries row (contained (term_rows parts.entries) number row at) in
      subst (IsCounted collection) is (counted_entry collection entry (All-contains (IsEntryOf collection) parts.entries entry are.entries stands))

  pub rows_listed : AreRows collection pieces (picked (term_rows parts.entries) numbers)
  rows_listed = record {
    ascending = subst IsAscending (sym same_terms) (picked_ascending (terms_of parts.entries) are.vocabulary.ascending numbers (AllPairs-from_increasing numbers matches.ascending));
    exact = λ term. (listed_term term, term_listed term);
    counted = λ k d below. counted_row (get_or (picked (term_rows parts.entries) numbers) k d) (Contains-get_or (picked (term_rows parts.entries) numbers) k d below);
  }

-- how many there are
pub rows_counted : (entries : List DictionaryEntry) (numbers : List ℕ) → All (λ number. number < length entries) numbers → length (picked (term_rows entries) numbers) ≡ length numbers
rows_counted entries numbers below =
    let row_in = λ (e : DictionaryEntry). let row : TermRow = record { term = e.term; documents = length e.postings } in row in
    let count = length-map entries row_in in
    length_picked (term_rows entries) numbers (recursion_from_All (λ number. number < length (term_rows entries)) numbers (λ k d low. omega (arith, below k d low, count)))
