-- Shares that cover each number once: which of them covers a number, and where its rows stand.
use Rattle.std.proofs.Common.{◌≡◌, ℕ, zero, suc, ◌+◌, ◌-◌, ◌<◌, ◌≤◌, List, [], ◌∷◌, Bool, true, false, cond, length, map, get_or, slice_get, Contains, count_by, refl, sym, ap, ◌∙◌, arith, inl, inr}
use Rattle.std.proofs.lemmas.Bool.{and_parts, leb-true, ltb-true, cond-true, cond-false, cases_Bool, cases_lt}
use Rattle.std.proofs.lemmas.List.{get_or-map, get_or_default, length-map}
use Rattle.std.proofs.lemmas.List.Elements.{All-contains}
use Rattle.std.proofs.lemmas.List.Sums.{sum_by-cons, get_or-le-sum_by}
use Rattle.ix_text.specs.Parts.{DocumentRow}
use Rattle.ix_text.proofs.PartsLawful.{sum_by-map}
use Rattle.ix_run.specs.Heads.{Heading}
use Rattle.ix_merge.specs.Covers.{covers, times_covered}
use Rattle.ix_merge.specs.Merged.{Share}
use Rattle.ix_merge.specs.Rows.{AreRowsOf}
use Rattle.ix_merge.proofs.Covering.{once, covered_within}
use Rattle.ix_merge.proofs.Laying.{contains_now, contains_later}

abbrev pub heading_of_share : Share → Heading
heading_of_share share = share.heading

-- ---- tests that pass once

abbrev one_or_none : {A : Type 0} → (A → Bool) → A → ℕ
one_or_none p x = cond (p x) 1 0

count_more : {A : Type 0} (p : A → Bool) (x : A) (xs : List A) → p x ≡ true → count_by p (x ∷ xs) ≡ 1 + count_by p xs
count_more p x xs holds = sum_by-cons (one_or_none p) x xs ∙ ap (λ n. n + count_by p xs) (cond-true (p x) 1 0 holds)

count_same : {A : Type 0} (p : A → Bool) (x : A) (xs : List A) → p x ≡ false → count_by p (x ∷ xs) ≡ count_by p xs
count_same p x xs fails = sum_by-cons (one_or_none p) x xs ∙ ap (λ n. n + count_by p xs) (cond-false (p x) 1 0 fails) ∙ omega arith

-- where an element passes, the count is not 0
pub passes_counted : {A : Type 0} (p : A → Bool) (xs : List A) (x : A) → Contains xs x → p x ≡ true → 0 < count_by p xs
passes_counted p xs x (k, within, is) holds =
    omega (arith, get_or-le-sum_by (one_or_none p) xs k x within, ap (one_or_none p) is ∙ cond-true (p x) 1 0 holds)

at_place : {A : Type 0} (xs : List A) (k : ℕ) (d : A) → k < length xs → Contains xs (get_or xs k d)
at_place [] k d within = absurd (omega (arith, within))
at_place (x ∷ xs) zero d within = contains_now x xs
at_place (x ∷ xs) (suc k) d within = contains_later x xs (get_or xs k d) (at_place xs k d (omega (arith, within)))

-- where the count is at most 1, the places at which the test passes are one
pub only_once : {A : Type 0} (p : A → Bool) (xs : List A) (i j : ℕ) (d : A) → count_by p xs ≤ 1 → i < length xs → j < length xs → p (get_or xs i d) ≡ true → p (get_or xs j d) ≡ true → i ≡ j
only_once p [] i j d most below below' at_i at_j = absurd (omega (arith, below))
only_once p (x ∷ xs) zero zero d most below below' at_i at_j = refl
only_once p (x ∷ xs) zero (suc j) d most below below' at_i at_j =
    absurd (omega (arith, most, count_more p x xs at_i, passes_counted p xs (get_or xs j d) (at_place xs j d (omega (arith, below'))) at_j))
only_once p (x ∷ xs) (suc i) zero d most below below' at_i at_j =
    absurd (omega (arith, most, count_more p x xs at_j, passes_counted p xs (get_or xs i d) (at_place xs i d (omega (arith, below))) at_i))
only_once p (x ∷ xs) (suc i) (suc j) d most below below' at_i at_j =
    ap suc (only_once p xs i j d (omega (arith, most, sum_by-cons (one_or_none p) x xs)) (omega (arith, below)) (omega (arith, below')) at_i at_j)

-- an element that passes
pub record HasPassing {A : Type 0} (p : A → Bool) (xs : List A) : Type 0 where
  pub element : A
  pub among : Contains xs element
  pub passes : p element ≡ true

pub some_passing : {A : Type 0} (p : A → Bool) (xs : List A) → 0 < count_by p xs → HasPassing p xs
some_passing p [] some = absurd (omega (arith, some))
some_passing p (x ∷ xs) some =
    elim (cases_Bool (p x)) [
      | inl holds ↦ record { element = x; among = contains_now x xs; passes = holds }
      | inr fails ↦
          let rest = some_passing p xs (omega (arith, some, count_same p x xs fails)) in
          record { element = rest.element; among = contains_later x xs rest.element rest.among; passes = rest.passes }
    ]

-- what is made of an element stands in what is made of the list
pub contains_mapped : {A B : Type 0} (f : A → B) (xs : List A) (x : A) → Contains xs x → Contains (map f xs) (f x)
contains_mapped f xs x (k, within, is) = (k, omega (arith, within, length-map xs f), get_or-map f xs k x (f x) within ∙ ap f is)

-- ---- shares

pub covered_parts : (n : ℕ) (h : Heading) → covers n h ≡ true → (h.first ≤ n) × (n < h.first + length h.rows)
covered_parts n h covered =
    let (low, high) = and_parts _ _ covered in
    (leb-true h.first n low, ltb-true n (h.first + length h.rows) high)

module _ (shares : List Share) (rows : List DocumentRow) (laid : AreRowsOf (map heading_of_share shares) rows) where
  counted : (n : ℕ) → times_covered (map heading_of_share shares) n ≡ count_by (λ (share : Share). covers n share.heading) shares
  counted n = sum_by-map (once n) heading_of_share shares

  at_most_once : (n : ℕ) → count_by (λ (share : Share). covers n share.heading) shares ≤ 1
  at_most_once n =
      elim (cases_lt n (length rows)) [
        | inl below ↦ omega (arith, counted n, laid.cover.once n below)
        | inr behind ↦ omega (arith, counted n, laid.cover.no_other n behind)
      ]

  -- two shares that cover one number are one
  pub same_share : (one other : Share) → Contains shares one → Contains shares other → (n : ℕ) → covers n one.heading ≡ true → covers n other.heading ≡ true → one ≡ other
  same_share one other (i, below, at_i) (j, below', at_j) n covered covered' =
      let p : Share → Bool = λ share. covers n share.heading in
      let there : get_or shares j one ≡ other = get_or_default shares j one other below' ∙ at_j in
      let e : i ≡ j = only_once p shares i j one (at_most_once n) below below' (ap p at_i ∙ covered) (ap p there ∙ covered') in
      sym at_i ∙ ap (λ k. get_or shares k one) e ∙ there

  -- some share covers a number of a row
  pub share_at : (n : ℕ) → n < length rows → HasPassing (λ (share : Share). covers n share.heading) shares
  share_at n below = some_passing (λ (share : Share). covers n share.heading) shares (omega (arith, counted n, laid.cover.once n below))

  -- what a share covers has a row
  pub covered_below : (share : Share) → Contains shares share → (n : ℕ) → covers n share.heading ≡ true → n < length rows
  covered_below share among n covered =
      elim (cases_lt n (length rows)) [
        | inl below ↦ below
        | inr behind ↦ absurd (omega (arith, passes_counted (λ (s : Share). covers n s.heading) shares share among covered, counted n, laid.cover.no_other n behind))
      ]

  -- the rows of a share stand at its first number
  pub row_at : (share : Share) → Contains shares share → (n : ℕ) → n < length share.heading.rows → slice_get rows (share.heading.first + n) ≡ slice_get share.heading.rows n
  row_at share among n below =
      All-contains (λ (h : Heading). (number : ℕ) → number < length h.rows → slice_get rows (h.first + number) ≡ slice_get h.rows number)
      (map heading_of_share shares) share.heading laid.placed (contains_mapped heading_of_share shares share among) n below

  -- a share with documents ends among the rows
  pub share_end : (share : Share) → Contains shares share → 0 < length share.heading.rows → share.heading.first + length share.heading.rows ≤ length rows
  share_end share among some =
      let last = share.heading.first + length share.heading.rows - 1 in
      omega (arith, some, covered_below share among last (covered_within last share.heading (omega (arith, some)) (omega (arith, some))))
