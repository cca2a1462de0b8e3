-- Positions are tokens: each place of a token list is told of one term at most.
use Rattle.std.proofs.Common.{◌≡◌, ℕ, suc, ◌+◌, ◌-◌, ◌<◌, ◌≤◌, Bool, true, false, cond, List, [], ◌∷◌, map, length, get_or, drop, slice_get, Some, None, All, Contains, sum_by, refl, sym, ap, ◌∙◌, subst, arith, inl, inr, bytes_eq}
use Rattle.std.proofs.lemmas.Bool.{cases_Bool}
use Rattle.std.proofs.lemmas.List.{map-id, drop-drop, get_or-map, length-map}
use Rattle.std.proofs.lemmas.List.Elements.{All-contains, All-head, All-tail, Contains-get_or}
use Rattle.std.proofs.lemmas.List.Sums.{sum_by-cons, sum_by-take-drop, sum_by-drop_more, sum_by-le-sum_by}
use Rattle.std.proofs.lemmas.Option.{slice_get_within, get_or_from_slice_get}
use Rattle.std.proofs.lemmas.Slice.Eq.{bytes_eq-Decides}
use Rattle.std.specs.List.{count_by}
use Rattle.std.specs.List.Sorted.{IsStrictlyIncreasing}
use Rattle.ix_text.specs.ByteOrder.{IsAscending}
use Rattle.ix_text.specs.Collections.{Collection, Document, HasPosting, token_total}
use Rattle.ix_text.specs.Parts.{Parts, Posting, DictionaryEntry, ArePartsOf, IsTermPosting, IsEntryOf, terms_of}
use Rattle.ix_text.specs.PartsLaws.{position_count}
use Rattle.ix_text.specs.TokenLists.{Entry}
use Rattle.ix_text.proofs.CollectionTold.{same_place, contains_first}

-- ---- places that rise

-- from a number on each place is above the one before
abbrev pub RisesFrom : ℕ → List ℕ → Type 0
RisesFrom low [] = Unit {0}
RisesFrom low (x ∷ xs) = (low ≤ x) × RisesFrom (x + 1) xs

rising_tail : (x : ℕ) (xs : List ℕ) → IsStrictlyIncreasing (x ∷ xs) → IsStrictlyIncreasing xs
rising_tail x xs rising k h =
    let next : suc k + 1 ≡ suc (k + 1) = omega arith in
    subst (λ n. get_or xs k 0 < get_or (x ∷ xs) n 0) next (rising (suc k) (omega arith))

pub rises : (low : ℕ) (xs : List ℕ) → IsStrictlyIncreasing xs → (0 < length xs → low ≤ get_or xs 0 0) → RisesFrom low xs
rises low [] rising above = tt
rises low (x ∷ xs) rising above = (above (omega arith), rises (x + 1) xs (rising_tail x xs rising) (λ some. let h : x < get_or xs 0 0 = rising 0 (omega arith) in omega arith))

-- ---- a sum over rising places is no more than that over all

-- the element at the place weighs at least as much
pub record IsOutweighed {A : Type 0} (f : A → ℕ) (xs : List A) (place weight : ℕ) : Type 0 where
  pub element : A
  pub there : slice_get xs place ≡ Some element
  pub outweighed : weight ≤ f element

drop_less : {A : Type 0} (f : A → ℕ) (xs : List A) (low more : ℕ) → low ≤ more → sum_by f (drop more xs) ≤ sum_by f (drop low xs)
drop_less f xs low more h =
    let e : low + (more - low) ≡ more = omega arith in
    let same : drop (more - low) (drop low xs) ≡ drop more xs = drop-drop (more - low) low xs ∙ ap (λ n. drop n xs) e in
    omega (arith, sum_by-take-drop f (drop low xs) (more - low), ap (sum_by f) same)

pub places_outweighed : {A B : Type 0} (f : A → ℕ) (xs : List A) (place weight : B → ℕ) (low : ℕ) (ys : List B) → RisesFrom low (map place ys) → All (λ y. IsOutweighed f xs (place y) (weight y)) ys → sum_by weight ys ≤ sum_by f (drop low xs)
places_outweighed f xs place weight low [] rising each = omega arith
places_outweighed {A} {B} f xs place weight low (y ∷ ys) rising each =
    let P = λ (z : B). IsOutweighed f xs (place z) (weight z) in
    let first = All-head P y ys each in
    let within = slice_get_within xs (place y) first.element first.there in
    let at : get_or xs (place y) first.element ≡ first.element = get_or_from_slice_get xs (place y) first.element first.element first.there in
    omega (
      arith,
      sum_by-cons weight y ys,
      drop_less f xs low (place y) rising.0,
      sum_by-drop_more f xs (place y) first.element within,
      ap f at,
      first.outweighed,
      places_outweighed f xs place weight (place y + 1) ys rising.1 (All-tail P y ys each),
    )

-- ---- the positions of one term

-- what an element that passes counts
abbrev pub weight_of : Bool → ℕ
weight_of b = cond b 1 0

-- the token is the term
abbrev pub is_token : List ℕ → Entry → Bool
is_token term None = false
is_token term (Some token) = bytes_eq token term

-- the tokens of a document that are the term
abbrev pub token_hits : List ℕ → Document → ℕ
token_hits term document = count_by (is_token term) document.tokens

pub is_token_itself : (term : List ℕ) → is_token term (Some term) ≡ true
is_token_itself term = (bytes_eq-Decides term term).1 refl

pub ones : {A : Type 0} (xs : List A) → sum_by (λ _. 1) xs ≡ length xs
ones [] = refl
ones (x ∷ xs) = omega (arith, sum_by-cons (λ _. 1) x xs, ones xs)

module _ (collection : Collection) (entry : DictionaryEntry) (is : IsEntryOf collection entry) where
  -- the document of a posting, and what a position in it is
  posting_hits : (posting : Posting) → Contains entry.postings posting → IsOutweighed (token_hits entry.term) collection.documents posting.0 (length posting.1)
  posting_hits posting among =
      let rising : IsTermPosting posting = All-contains IsTermPosting entry.postings posting is.ordered.each among in
      let (first, here) = contains_first posting.1 rising.0 in
      let start = posted first here in
      let there : All (λ position. IsOutweighed (λ (token : Entry). weight_of (is_token entry.term token)) start.document.tokens position 1) posting.1 = λ k d within. token_there start.document start.numbered (get_or posting.1 k d) (posted (get_or posting.1 k d) (Contains-get_or posting.1 k d within)) in
      let from_start : RisesFrom 0 (map (λ (x : ℕ). x) posting.1) = subst (RisesFrom 0) (sym (map-id posting.1)) (rises 0 posting.1 rising.1 (λ some. omega arith)) in
      let hits = places_outweighed (λ (token : Entry). weight_of (is_token entry.term token)) start.document.tokens (λ (x : ℕ). x) (λ (x : ℕ). 1) 0 posting.1 from_start there in
      record { element = start.document; there = start.numbered; outweighed = omega (arith, hits, ones posting.1) }
    where
      posted : (position : ℕ) → Contains posting.1 position → HasPosting collection entry.term posting.0 position
      posted position positioned = (is.posted posting.0 position).0 (record { positions = posting.1; among = among; positioned = positioned })

      token_there : (document : Document) → slice_get collection.documents posting.0 ≡ Some document → (position : ℕ) → HasPosting collection entry.term posting.0 position → IsOutweighed (λ (token : Entry). weight_of (is_token entry.term token)) document.tokens position 1
      token_there document numbered position h =
          let same : h.document ≡ document = cc (h.numbered, numbered) in
          record {
            element = Some entry.term;
            there = ap (λ (d : Document). slice_get d.tokens position) (sym same) ∙ h.entry;
            outweighed = omega (arith, ap weight_of (is_token_itself entry.term));
          }

  pub entry_hits : position_count entry.postings ≤ sum_by (token_hits entry.term) collection.documents
  entry_hits =
      places_outweighed (token_hits entry.term) collection.documents (λ (posting : Posting). posting.0) (λ (posting : Posting). length posting.1) 0 entry.postings
      (rises 0 (map (λ (posting : Posting). posting.0) entry.postings) is.ordered.ascending (λ some. omega arith))
      (λ k d below. posting_hits (get_or entry.postings k d) (Contains-get_or entry.postings k d below))

-- ---- a token is one term's

none_pass : {A : Type 0} (p : A → Bool) (xs : List A) → ((j : ℕ) (d : A) → j < length xs → p (get_or xs j d) ≡ true → ⊥) → count_by p xs ≡ 0
none_pass p [] none = refl
none_pass p (x ∷ xs) none =
    elim (cases_Bool (p x)) [
      | inl passes ↦ absurd (none 0 x (omega arith) passes)
      | inr fails ↦
          let others = none_pass p xs (λ j d below passes. none (suc j) d (omega arith) passes) in
          omega (arith, sum_by-cons (λ y. weight_of (p y)) x xs, ap weight_of fails, others)
    ]

pub at_most_one : {A : Type 0} (p : A → Bool) (xs : List A) → ((i j : ℕ) (d : A) → i < length xs → j < length xs → p (get_or xs i d) ≡ true → p (get_or xs j d) ≡ true → i ≡ j) → count_by p xs ≤ 1
at_most_one p [] same = omega arith
at_most_one p (x ∷ xs) same =
    let step = sum_by-cons (λ y. weight_of (p y)) x xs in
    elim (cases_Bool (p x)) [
      | inl passes ↦
          let none = none_pass p xs (λ j d below other. let e = same 0 (suc j) d (omega arith) (omega arith) passes other in omega (arith, e)) in
          omega (arith, step, ap weight_of passes, none)
      | inr fails ↦
          let others = at_most_one p xs (λ i j d below below' a b. let e = same (suc i) (suc j) d (omega arith) (omega arith) a b in omega (arith, e)) in
          omega (arith, step, ap weight_of fails, others)
    ]

pub one_entry : (entries : List DictionaryEntry) → IsAscending (terms_of entries) → (token : Entry) → count_by (λ entry. is_token entry.term token) entries ≤ 1
one_entry entries ascending None = at_most_one (λ (entry : DictionaryEntry). false) entries (λ i j d below below' a b. absurd (cc a))
one_entry entries ascending (Some token) = at_most_one (λ (entry : DictionaryEntry). bytes_eq token entry.term) entries (λ i j d below below' a b.
    let term = λ (entry : DictionaryEntry). entry.term in
    let count = length-map entries term in
    let same = get_or-map term entries i d [] below ∙ sym ((bytes_eq-Decides token (get_or entries i d).term).0 a) ∙ (bytes_eq-Decides token (get_or entries j d).term).0 b ∙ sym (get_or-map term entries j d [] below') in
    same_place (terms_of entries) i j [] ascending (omega arith) (omega arith) same)

-- ---- what each element gives to all at most, all elements give at most

sum_by-plus : {A : Type 0} (f g : A → ℕ) (xs : List A) → sum_by (λ x. f x + g x) xs ≡ sum_by f xs + sum_by g xs
sum_by-plus f g [] = omega arith
sum_by-plus f g (x ∷ xs) = omega (arith, sum_by-cons (λ y. f y + g y) x xs, sum_by-cons f x xs, sum_by-cons g x xs, sum_by-plus f g xs)

sum_by-zero : {A : Type 0} (xs : List A) → sum_by (λ _. 0) xs ≡ 0
sum_by-zero [] = refl
sum_by-zero (x ∷ xs) = omega (arith, sum_by-cons (λ _. 0) x xs, sum_by-zero xs)

pub shared : {A B : Type 0} (gives : B → A → ℕ) (most : A → ℕ) (ys : List B) → ((x : A) → sum_by (λ y. gives y x) ys ≤ most x) → (xs : List A) → sum_by (λ y. sum_by (gives y) xs) ys ≤ sum_by most xs
shared gives most ys bound [] = omega (arith, sum_by-zero ys)
shared gives most ys bound (x ∷ xs) =
    omega (
      arith,
      sum_by-le-sum_by (λ y. sum_by (gives y) (x ∷ xs)) (λ y. gives y x + sum_by (gives y) xs) ys (λ y. omega (arith, sum_by-cons (gives y) x xs)),
      sum_by-plus (λ y. gives y x) (λ y. sum_by (gives y) xs) ys,
      bound x,
      shared gives most ys bound xs,
      sum_by-cons most x xs,
    )

pub tokens_shared : (entries : List DictionaryEntry) → IsAscending (terms_of entries) → (document : Document) → sum_by (λ entry. token_hits entry.term document) entries ≤ length document.tokens
tokens_shared entries ascending document =
    omega (arith, shared (λ (entry : DictionaryEntry) (token : Entry). weight_of (is_token entry.term token)) (λ (token : Entry). 1) entries (one_entry entries ascending) document.tokens, ones document.tokens)

pub positions_counted : (collection : Collection) (parts : Parts) → ArePartsOf collection parts → sum_by (λ entry. position_count entry.postings) parts.entries ≤ token_total collection
positions_counted collection parts of =
    omega (
      arith,
      all_hits parts.entries of.entries,
      shared (λ (entry : DictionaryEntry). token_hits entry.term) (λ (d : Document). length d.tokens) parts.entries (tokens_shared parts.entries of.vocabulary.ascending) collection.documents,
    )
  where
    all_hits : (entries : List DictionaryEntry) → All (IsEntryOf collection) entries → sum_by (λ entry. position_count entry.postings) entries ≤ sum_by (λ entry. sum_by (token_hits entry.term) collection.documents) entries
    all_hits [] are = omega arith
    all_hits (entry ∷ entries) are =
        omega (
          arith,
          entry_hits collection entry (All-head (IsEntryOf collection) entry entries are),
          all_hits entries (All-tail (IsEntryOf collection) entry entries are),
          sum_by-cons (λ (e : DictionaryEntry). position_count e.postings) entry entries,
          sum_by-cons (λ (e : DictionaryEntry). sum_by (token_hits e.term) collection.documents) entry entries,
        )
