-- Scans: one more document, and that a query has one scan.
use Rattle.std.proofs.Common.{◌≡◌, ℕ, zero, suc, ◌+◌, ◌<◌, ◌≤◌, ◌⊎◌, inl, inr, List, [], ◌∷◌, ◌++◌, Some, map, length, get_or, refl, sym, ◌∙◌, ap, ap₂, subst, arith, length-append}
use Rattle.std.proofs.lemmas.Bool.{cases_lt}
use Rattle.std.proofs.lemmas.List.{length-map, get_or_default, get_or_append_left, get_or_push}
use Rattle.std.proofs.lemmas.List.Elements.{Contains-push, Contains-append_left, Contains-push_cases}
use Rattle.std.proofs.lemmas.List.Kept.{AllPairs-from_increasing}
use Rattle.std.proofs.lemmas.Option.{slice_get-map, slice_get_read, slice_get_within}
use Rattle.std.specs.Prelude.{◌↔◌, Contains, AllPairs, slice_get, option_map}
use Rattle.std.specs.List.Sorted.{IsStrictlyIncreasing}
use Rattle.ix_text.specs.Collections.{Collection, Document, NamedText, collection_of}
use Rattle.ix_text.specs.TokenLists.{token_list}
use Rattle.ix_query_text.specs.declared.tree.Tree.{Tree}
use Rattle.ix_query.specs.Satisfaction.{Satisfies}
use Rattle.ix_query.specs.Scans.{IsScan, SatisfiesAt}

-- ---- one scan

below_head : (x n : ℕ) (xs : List ℕ) → AllPairs (λ a b. a < b) (x ∷ xs) → Contains xs n → x < n
below_head x n xs pairs (k, within, is) =
    let less : x < get_or xs k n = pairs 0 (suc k) n (omega arith) (omega arith) in omega (arith, is)

tail_pairs : (x : ℕ) (xs : List ℕ) → AllPairs (λ a b. a < b) (x ∷ xs) → AllPairs (λ a b. a < b) xs
tail_pairs x xs pairs i j d before within = pairs (suc i) (suc j) d (omega arith) (omega arith)

first_of_all : (x : ℕ) (xs : List ℕ) → Contains (x ∷ xs) x
first_of_all x xs = (0, omega arith, refl)

further : (x n : ℕ) (xs : List ℕ) → Contains xs n → Contains (x ∷ xs) n
further x n xs (k, within, is) = (suc k, omega arith, is)

head_or_further : (x n : ℕ) (xs : List ℕ) → Contains (x ∷ xs) n → (x ≡ n) ⊎ Contains xs n
head_or_further x n xs (zero, within, is) = inl is
head_or_further x n xs (suc k, within, is) = inr (k, omega arith, is)

none_in_nil : (n : ℕ) → Contains [] n → ⊥
none_in_nil n (k, within, is) = absurd (omega arith)

-- the first numbers of two lists that ascend are the same where each holds the other's
not_below : (x y : ℕ) (ys : List ℕ) → AllPairs (λ a b. a < b) (y ∷ ys) → Contains (y ∷ ys) x → y ≤ x
not_below x y ys pairs h = elim (head_or_further y x ys h) [ inl e ↦ omega arith | inr more ↦ let less = below_head y x ys pairs more in omega arith ]

past_head : (x y n : ℕ) (xs ys : List ℕ) → AllPairs (λ a b. a < b) (x ∷ xs) → x ≡ y → ((m : ℕ) → Contains (x ∷ xs) m → Contains (y ∷ ys) m) → Contains xs n → Contains ys n
past_head x y n xs ys pairs e there h = elim (head_or_further y n ys (there n (further x n xs h))) [
  | inl same ↦ absurd (let less = below_head x n xs pairs h in omega arith)
  | inr more ↦ more
]

one_list : (xs ys : List ℕ) → AllPairs (λ a b. a < b) xs → AllPairs (λ a b. a < b) ys → ((n : ℕ) → Contains xs n → Contains ys n) → ((n : ℕ) → Contains ys n → Contains xs n) → xs ≡ ys
one_list [] [] p q there back = refl
one_list [] (y ∷ ys) p q there back = absurd (none_in_nil y (back y (first_of_all y ys)))
one_list (x ∷ xs) [] p q there back = absurd (none_in_nil x (there x (first_of_all x xs)))
one_list (x ∷ xs) (y ∷ ys) p q there back =
    let low = not_below x y ys q (there x (first_of_all x xs)) in
    let high = not_below y x xs p (back y (first_of_all y ys)) in
    let same : x ≡ y = omega arith in
    ap₂ (λ (n : ℕ) (ns : List ℕ). n ∷ ns) same
    (one_list xs ys (tail_pairs x xs p) (tail_pairs y ys q) (λ n h. past_head x y n xs ys p same there h) (λ n h. past_head y x n ys xs q (sym same) back h))

pub one_scan : (collection : Collection) (query : Tree) (numbers others : List ℕ) → IsScan collection query numbers → IsScan collection query others → numbers ≡ others
one_scan collection query numbers others a b =
    one_list numbers others (AllPairs-from_increasing numbers a.ascending) (AllPairs-from_increasing others b.ascending)
    (λ n h. (b.exact n).1 ((a.exact n).0 h)) (λ n h. (a.exact n).1 ((b.exact n).0 h))

-- ---- one more document

-- the numbers so far, of the documents before i
pub record IsScanBefore (collection : Collection) (query : Tree) (i : ℕ) (numbers : List ℕ) : Type 0 where
  pub ascending : IsStrictlyIncreasing numbers
  pub low : (number : ℕ) → Contains numbers number → number < i
  pub sound : (number : ℕ) → Contains numbers number → SatisfiesAt collection query number
  pub complete : (number : ℕ) → number < i → SatisfiesAt collection query number → Contains numbers number

increasing_push : (xs : List ℕ) (y : ℕ) → IsStrictlyIncreasing xs → ((n : ℕ) → Contains xs n → n < y) → IsStrictlyIncreasing (xs ++ y ∷ [])
increasing_push xs y up low k below =
    let size : length (xs ++ y ∷ []) ≡ length xs + 1 = length-append xs (y ∷ []) in
    let first : get_or (xs ++ y ∷ []) k 0 ≡ get_or xs k 0 = get_or_append_left xs (y ∷ []) 0 k (omega arith) in
    elim (cases_lt (k + 1) (length xs)) [
      | inl inside ↦
          let second : get_or (xs ++ y ∷ []) (k + 1) 0 ≡ get_or xs (k + 1) 0 = get_or_append_left xs (y ∷ []) 0 (k + 1) inside in
          let less = up k inside in omega (arith, first, second)
      | inr last ↦
          let second : get_or (xs ++ y ∷ []) (k + 1) 0 ≡ y = get_or_push xs y 0 (k + 1) (omega arith) in
          let less : get_or xs k 0 < y = low (get_or xs k 0) (k, omega arith, get_or_default xs k (get_or xs k 0) 0 (omega arith)) in omega (arith, first, second)
    ]

pub scan_yes : (collection : Collection) (query : Tree) (i : ℕ) (numbers : List ℕ) → SatisfiesAt collection query i → IsScanBefore collection query i numbers → IsScanBefore collection query (i + 1) (numbers ++ i ∷ [])
scan_yes collection query i numbers here before = record {
  ascending = increasing_push numbers i before.ascending before.low;
  low = λ n h. elim (Contains-push_cases numbers i n h) [ inl was ↦ let less = before.low n was in omega arith | inr e ↦ omega arith ];
  sound = λ n h. elim (Contains-push_cases numbers i n h) [ inl was ↦ before.sound n was | inr e ↦ let P : ℕ → Type 0 = SatisfiesAt collection query in subst P e here ];
  complete = λ n below h. elim (cases_lt n i) [
    | inl less ↦ Contains-append_left numbers (i ∷ []) n (before.complete n less h)
    | inr more ↦ let same : i ≡ n = omega arith in let P : ℕ → Type 0 = λ m. Contains (numbers ++ i ∷ []) m in subst P same (Contains-push numbers i)
  ];
}

pub scan_no : (collection : Collection) (query : Tree) (i : ℕ) (numbers : List ℕ) → ¬ (SatisfiesAt collection query i) → IsScanBefore collection query i numbers → IsScanBefore collection query (i + 1) numbers
scan_no collection query i numbers lacks before = record {
  ascending = before.ascending;
  low = λ n h. let less = before.low n h in omega arith;
  sound = before.sound;
  complete = λ n below h. elim (cases_lt n i) [
    | inl less ↦ before.complete n less h
    | inr more ↦ let same : n ≡ i = omega arith in let P : ℕ → Type 0 = SatisfiesAt collection query in absurd (lacks (subst P same h))
  ];
}

scan_ends : (collection : Collection) (query : Tree) (i : ℕ) (numbers : List ℕ) → length collection.documents ≤ i → IsScanBefore collection query i numbers → IsScan collection query numbers
scan_ends collection query i numbers all before = record {
  ascending = before.ascending;
  exact = λ n. (before.sound n, λ h. before.complete n (let within = slice_get_within collection.documents n h.document h.numbered in omega arith) h);
}

-- the document of a number, of a collection of named texts
abbrev pub document_of : List (List ℕ) → NamedText → Document
document_of stop d = record { name = d.name; tokens = token_list stop d.text }

pub at_document : {X : Type 0} (stop : List (List ℕ)) (f : X → NamedText) (xs : List X) (i : ℕ) (x : X) (query : Tree) → i < length xs → x ≡ get_or xs i x → SatisfiesAt (collection_of stop (map f xs)) query i ↔ Satisfies (token_list stop (f x).text) query
unfolding collection_of
at_document stop f xs i x query within is =
    let here : slice_get (map (document_of stop) (map f xs)) i ≡ Some (document_of stop (f x)) = slice_get-map (document_of stop) (map f xs) i ∙ ap (option_map (document_of stop)) (slice_get-map f xs i ∙ ap (option_map f) (slice_get_read xs (length xs) i x refl within is)) in (
      λ h. let same : h.document ≡ document_of stop (f x) = let there = h.numbered in cc in
          let P : Document → Type 0 = λ d. Satisfies d.tokens query in subst P same h.satisfied,
      λ h. record { document = document_of stop (f x); numbered = here; satisfied = h },
    )

pub scan_of_all : {X : Type 0} (stop : List (List ℕ)) (f : X → NamedText) (xs : List X) (query : Tree) (i : ℕ) (numbers : List ℕ) → length xs ≤ i → IsScanBefore (collection_of stop (map f xs)) query i numbers → IsScan (collection_of stop (map f xs)) query numbers
unfolding collection_of
scan_of_all stop f xs query i numbers all before =
    let size : length (map (document_of stop) (map f xs)) ≡ length xs = length-map (map f xs) (document_of stop) ∙ length-map xs f in
    scan_ends (collection_of stop (map f xs)) query i numbers (omega arith) before
