-- What a query finds in segments that follow one another.
use Rattle.std.proofs.Common.{◌≡◌, ℕ, zero, suc, ◌+◌, ◌-◌, ◌<◌, ◌≤◌, inl, inr, List, [], ◌∷◌, ◌++◌, map, length, flat_map, refl, sym, ap, ap₂, ◌∙◌, subst, arith, length-append}
use Rattle.std.specs.Prelude.{Contains, ◌↔◌, ⊤, slice_get, sum_by}
use Rattle.std.proofs.lemmas.Bool.{cases_lt}
use Rattle.std.proofs.lemmas.Grind.{flat_map-append}
use Rattle.std.proofs.lemmas.List.{append-nil, length-map, map-append}
use Rattle.std.proofs.lemmas.List.Elements.{Contains-append_cases, Contains-append_left, Contains-append_right}
use Rattle.std.proofs.lemmas.List.Sums.{sum_by-cons}
use Rattle.std.proofs.lemmas.Option.{slice_get_within}
use Rattle.ix_text.specs.Collections.{Document}
use Rattle.ix_query.specs.Scans.{SatisfiesAt}
use Rattle.ix_query_text.specs.declared.tree.Tree.{Tree}
use Rattle.ix_scan.specs.ScansWithout.{IsScanWithout, of_documents}
use Rattle.ix_scan.proofs.Members.{in_shifted, increasing_joined, shifted_has, shifted_increasing}
use Rattle.ix_ask.specs.NameLines.{name_line, name_lines, names_indexed}
use Rattle.ix_removals.specs.RemovalsText.{IsRemoved, Removal}
use Rattle.ix_archive.specs.Archives.{joined}
use Rattle.ix_archive.specs.Findings.{FindsIn, IsGoneFrom}

-- ---- elements of lists behind lists

pub slice_get_left : {A : Type 0} (xs ys : List A) (k : ℕ) → k < length xs → slice_get (xs ++ ys) k ≡ slice_get xs k
slice_get_left [] ys k within = absurd (omega (arith, within))
slice_get_left (x ∷ xs) ys zero within = refl
slice_get_left (x ∷ xs) ys (suc k) within = slice_get_left xs ys k (omega (arith, within))

pub slice_get_right : {A : Type 0} (xs ys : List A) (n k : ℕ) → length xs + k ≡ n → slice_get (xs ++ ys) n ≡ slice_get ys k
slice_get_right [] ys n k at = ap (slice_get ys) (sym at ∙ omega arith)
slice_get_right (x ∷ xs) ys zero k at = absurd (omega (arith, at))
slice_get_right (x ∷ xs) ys (suc n) k at = slice_get_right xs ys n k (omega (arith, at))

-- ---- names

names_joined : (xs ys : List Document) → names_indexed (xs ++ ys) ≡ names_indexed xs ++ names_indexed ys
names_joined xs ys = map-append (λ (document : Document). document.name) xs ys

names_length : (xs : List Document) → length (names_indexed xs) ≡ length xs
names_length xs = length-map xs (λ (document : Document). document.name)

lines_left : (one other : List (List ℕ)) (numbers : List ℕ) → ((n : ℕ) → Contains numbers n → n < length one) → name_lines (one ++ other) numbers ≡ name_lines one numbers
lines_left one other [] below = refl
lines_left one other (n ∷ numbers) below =
    ap₂ (λ (xs ys : List ℕ). xs ++ ys) (ap name_line (slice_get_left one other n (below n (0, omega arith, refl))))
    (lines_left one other numbers (λ m (k, within, is). below m (suc k, omega arith, is)))

lines_right : (one other : List (List ℕ)) (numbers : List ℕ) (size : ℕ) → size ≡ length one → name_lines (one ++ other) (map (λ n. size + n) numbers) ≡ name_lines other numbers
lines_right one other [] size is = refl
lines_right one other (n ∷ numbers) size is =
    ap₂ (λ (xs ys : List ℕ). xs ++ ys) (ap name_line (slice_get_right one other (size + n) n (omega arith)))
    (lines_right one other numbers size is)

-- ---- what is removed

module _ (removals : List Removal) (first : ℕ) (xs ys : List Document) where
  abbrev gone_in : List Document → ℕ → ℕ → Type 0
  gone_in documents from = IsGoneFrom removals from (names_indexed documents)

  pub gone_within : (n : ℕ) → gone_in xs first n → n < length xs
  gone_within n gone = let within = slice_get_within (names_indexed xs) n gone.name gone.numbered in let size = names_length xs in omega arith

  pub gone_left : (n : ℕ) → n < length xs → gone_in (xs ++ ys) first n ↔ gone_in xs first n
  gone_left n within =
      let same : slice_get (names_indexed (xs ++ ys)) n ≡ slice_get (names_indexed xs) n =
      ap (λ (names : List (List ℕ)). slice_get names n) (names_joined xs ys) ∙ slice_get_left (names_indexed xs) (names_indexed ys) n (let size = names_length xs in omega arith) in (
        λ gone. record { name = gone.name; numbered = sym same ∙ gone.numbered; removed = gone.removed },
        λ gone. record { name = gone.name; numbered = same ∙ gone.numbered; removed = gone.removed },
      )

  pub gone_right : (n k : ℕ) → length xs + k ≡ n → gone_in (xs ++ ys) first n ↔ gone_in ys (first + length xs) k
  gone_right n k is =
      let same : slice_get (names_indexed (xs ++ ys)) n ≡ slice_get (names_indexed ys) k =
      ap (λ (names : List (List ℕ)). slice_get names n) (names_joined xs ys) ∙ slice_get_right (names_indexed xs) (names_indexed ys) n k (let size = names_length xs in omega arith) in
      let place : first + n ≡ (first + length xs) + k = omega arith in (
        λ gone. record { name = gone.name; numbered = sym same ∙ gone.numbered; removed = subst (λ (m : ℕ). IsRemoved removals gone.name m) place gone.removed },
        λ gone. record { name = gone.name; numbered = same ∙ gone.numbered; removed = subst (λ (m : ℕ). IsRemoved removals gone.name m) (sym place) gone.removed },
      )

-- ---- scans

module _ (stop : List (List ℕ)) (xs ys : List Document) (query : Tree) where
  below_length : (n : ℕ) → SatisfiesAt (of_documents stop xs) query n → n < length xs
  below_length n h = slice_get_within xs n h.document h.numbered

  satisfied_left : (n : ℕ) → n < length xs → SatisfiesAt (of_documents stop (xs ++ ys)) query n ↔ SatisfiesAt (of_documents stop xs) query n
  satisfied_left n within = (
    λ h. record { document = h.document; numbered = sym (slice_get_left xs ys n within) ∙ h.numbered; satisfied = h.satisfied },
    λ h. record { document = h.document; numbered = slice_get_left xs ys n within ∙ h.numbered; satisfied = h.satisfied },
  )

  satisfied_right : (n k : ℕ) → length xs + k ≡ n → SatisfiesAt (of_documents stop (xs ++ ys)) query n ↔ SatisfiesAt (of_documents stop ys) query k
  satisfied_right n k is = (
    λ h. record { document = h.document; numbered = sym (slice_get_right xs ys n k is) ∙ h.numbered; satisfied = h.satisfied },
    λ h. record { document = h.document; numbered = slice_get_right xs ys n k is ∙ h.numbered; satisfied = h.satisfied },
  )

module _ (stop : List (List ℕ)) (removals : List Removal) (first : ℕ) (xs ys : List Document) (query : Tree) (before numbers : List ℕ)
    (one : IsScanWithout (of_documents stop xs) (IsGoneFrom removals first (names_indexed xs)) query before)
    (other : IsScanWithout (of_documents stop ys) (IsGoneFrom removals (first + length xs) (names_indexed ys)) query numbers) where
  abbrev later : List ℕ
  later = map (λ n. length xs + n) numbers

  abbrev Found : ℕ → Type 0
  Found n = SatisfiesAt (of_documents stop (xs ++ ys)) query n × ¬ (IsGoneFrom removals first (names_indexed (xs ++ ys)) n)

  before_low : (n : ℕ) → Contains before n → n < length xs
  before_low n among = below_length stop xs ys query n ((one.exact n).0 among).0

  found_left : (n : ℕ) → n < length xs → Found n ↔ Contains before n
  found_left n within = (
    λ found. (one.exact n).1 ((satisfied_left stop xs ys query n within).0 found.0, λ gone. found.1 ((gone_left removals first xs ys n within).1 gone)),
    λ among. let r = (one.exact n).0 among in ((satisfied_left stop xs ys query n within).1 r.0, λ gone. r.1 ((gone_left removals first xs ys n within).0 gone)),
  )

  found_right : (n k : ℕ) → length xs + k ≡ n → Found n ↔ Contains numbers k
  found_right n k is = (
    λ found. (other.exact k).1 ((satisfied_right stop xs ys query n k is).0 found.0, λ gone. found.1 ((gone_right removals first xs ys n k is).1 gone)),
    λ among. let r = (other.exact k).0 among in ((satisfied_right stop xs ys query n k is).1 r.0, λ gone. r.1 ((gone_right removals first xs ys n k is).0 gone)),
  )

  later_high : (n : ℕ) → Contains later n → length xs ≤ n
  later_high n among = let from = in_shifted (length xs) numbers n among in let is = from.2 in omega arith

  sound : (n : ℕ) → Contains (before ++ later) n → Found n
  sound n among = elim (Contains-append_cases before later n among) [
    | inl was ↦ (found_left n (before_low n was)).1 was
    | inr new ↦ let from = in_shifted (length xs) numbers n new in (found_right n from.0 from.2).1 from.1
  ]

  complete : (n : ℕ) → Found n → Contains (before ++ later) n
  complete n found = elim (cases_lt n (length xs)) [
    | inl low ↦ Contains-append_left before later n ((found_left n low).0 found)
    | inr high ↦
        let k = n - length xs in
        let is : length xs + k ≡ n = omega arith in
        Contains-append_right before later n (subst (λ (m : ℕ). Contains later m) is (shifted_has (length xs) numbers k ((found_right n k is).0 found)))
  ]

  pub scans_joined : IsScanWithout (of_documents stop (xs ++ ys)) (IsGoneFrom removals first (names_indexed (xs ++ ys))) query (before ++ later)
  scans_joined = record {
    ascending = increasing_joined before later (length xs) one.ascending (shifted_increasing (length xs) numbers other.ascending) before_low later_high;
    exact = λ n. (sound n, complete n);
  }

  pub lines_joined : name_lines (names_indexed (xs ++ ys)) (before ++ later) ≡ name_lines (names_indexed xs) before ++ name_lines (names_indexed ys) numbers
  lines_joined =
      flat_map-append (λ (n : ℕ). name_line (slice_get (names_indexed (xs ++ ys)) n)) before later
      ∙ ap₂ (λ (l r : List ℕ). l ++ r)
      (ap (λ (names : List (List ℕ)). name_lines names before) (names_joined xs ys)
      ∙ lines_left (names_indexed xs) (names_indexed ys) before (λ n among. let low = before_low n among in let size = names_length xs in omega arith))
      (ap (λ (names : List (List ℕ)). name_lines names later) (names_joined xs ys) ∙ lines_right (names_indexed xs) (names_indexed ys) numbers (length xs) (sym (names_length xs)))

-- ---- findings

-- What is found in documents and in those behind them is found in all.
pub finds_joined : (stop : List (List ℕ)) (removals : List Removal) (first : ℕ) (xs ys : List Document) (query lines more : List ℕ) (count counted : ℕ)
    → FindsIn (of_documents stop xs) removals first query lines count → FindsIn (of_documents stop ys) removals (first + length xs) query more counted
    → FindsIn (of_documents stop (xs ++ ys)) removals first query (lines ++ more) (count + counted)
finds_joined stop removals first xs ys query lines more count counted one other =
    let same : other.tree ≡ one.tree = one.only other.tree other.parsed in
    let scan = subst (λ (tree : Tree). IsScanWithout (of_documents stop ys) (IsGoneFrom removals (first + length xs) (names_indexed ys)) tree other.numbers) same other.scanned in
    let later : List ℕ = map (λ n. length xs + n) other.numbers in
    let size : length (one.numbers ++ later) ≡ length one.numbers + length other.numbers =
    length-append one.numbers later ∙ ap (λ (k : ℕ). length one.numbers + k) (length-map other.numbers (λ (n : ℕ). length xs + n)) in
    let a = one.counted in let b = other.counted in
    record {
      tree = one.tree;
      numbers = one.numbers ++ later;
      parsed = one.parsed;
      only = one.only;
      scanned = scans_joined stop removals first xs ys one.tree one.numbers other.numbers one.scanned scan;
      named = ap₂ (λ (l r : List ℕ). l ++ r) one.named other.named ∙ sym (lines_joined stop removals first xs ys one.tree one.numbers other.numbers one.scanned scan);
      counted = omega arith;
    }

-- The lines and counts are those of what is found in these lists of documents, which count from a first number on.
abbrev pub AreFoundIn : List (List ℕ) → List Removal → List ℕ → ℕ → List (List Document) → List (List ℕ × ℕ) → Type 0
AreFoundIn stop removals query first [] [] = ⊤
AreFoundIn stop removals query first (documents ∷ lists) (part ∷ parts) =
    FindsIn (of_documents stop documents) removals first query part.0 part.1 × AreFoundIn stop removals query (first + length documents) lists parts
AreFoundIn stop removals query first _ _ = ⊥

abbrev pub lines_in : List (List ℕ × ℕ) → List ℕ
lines_in parts = flat_map (λ part. part.0) parts

abbrev pub count_in : List (List ℕ × ℕ) → ℕ
count_in parts = sum_by (λ part. part.1) parts

pub all_found : (stop : List (List ℕ)) (removals : List Removal) (query : List ℕ) (first : ℕ) (documents : List Document) (lists : List (List Document)) (part : List ℕ × ℕ) (parts : List (List ℕ × ℕ))
    → AreFoundIn stop removals query first (documents ∷ lists) (part ∷ parts)
    → FindsIn (of_documents stop (joined (documents ∷ lists))) removals first query (lines_in (part ∷ parts)) (count_in (part ∷ parts))
all_found stop removals query first documents [] part [] found =
    subst (λ (c : ℕ). FindsIn (of_documents stop (documents ++ [])) removals first query (part.0 ++ []) c) (omega arith)
    (subst (λ (l : List ℕ). FindsIn (of_documents stop (documents ++ [])) removals first query l part.1) (sym (append-nil part.0))
    (subst (λ (ds : List Document). FindsIn (of_documents stop ds) removals first query part.0 part.1) (sym (append-nil documents)) found.0))
all_found stop removals query first documents [] part (other ∷ parts) found = absurd found.1
all_found stop removals query first documents (next ∷ lists) part [] found = absurd found.1
all_found stop removals query first documents (next ∷ lists) part (other ∷ parts) found =
    let counts : List ℕ × ℕ → ℕ = λ one. one.1 in
    subst (λ (c : ℕ). FindsIn (of_documents stop (joined (documents ∷ next ∷ lists))) removals first query (lines_in (part ∷ other ∷ parts)) c) (sym (sum_by-cons counts part (other ∷ parts)))
    (finds_joined stop removals first documents (joined (next ∷ lists)) query part.0 (lines_in (other ∷ parts)) part.1 (count_in (other ∷ parts))
    found.0 (all_found stop removals query (first + length documents) next lists other parts found.1))
