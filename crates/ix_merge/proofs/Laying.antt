-- The rows of heads that are laid one after another, and that the order of sources and sources without documents
-- change nothing.
use Rattle.std.proofs.Common.{◌≡◌, ℕ, zero, suc, ◌+◌, ◌-◌, ◌<◌, ◌≤◌, List, [], ◌∷◌, ◌++◌, Bool, true, false, length, get_or, slice_get, All, Contains, sum_by, refl, sym, ap, ap₂, ◌∙◌, subst, arith, inl, inr, ◌⊎◌}
use Rattle.std.proofs.lemmas.Bool.{cond-true, cond-false, cases_Bool, lt-ltb, ltb-false, cases_lt}
use Rattle.std.proofs.lemmas.List.Concat.{length-flat_map}
use Rattle.std.proofs.lemmas.List.Elements.{All-append, All-head, All-nil, All-tail}
use Rattle.std.proofs.lemmas.List.Sorted.{Contains-permutation, sum_by-IsPermutation}
use Rattle.std.proofs.lemmas.List.Sums.{sum_by-cons, sum_by-append}
use Rattle.std.specs.List.{filter, flat_map}
use Rattle.std.specs.List.Sorted.{IsPermutation}
use Rattle.ix_text.specs.Collections.{IsName}
use Rattle.ix_text.specs.Parts.{DocumentRow}
use Rattle.ix_run.specs.Heads.{Heading, IsLawfulHeading}
use Rattle.ix_merge.specs.Covers.{Cover, IsGap, IsOverlap, covers, times_covered}
use Rattle.ix_merge.specs.Headings.{AreLaid, IsCoverFault, first_of, has_documents, rows_of}
use Rattle.ix_merge.specs.Refusals.{IsRefusal}
use Rattle.ix_merge.specs.Rows.{AreRowsOf, tokens_in, tokens_under}
use Rattle.ix_merge.specs.declared.merge_error.MergeError.{MergeError}
use Rattle.ix_merge.specs.declared.merge_error.MergeError.TheVariants.{Gap, Overlap, StopDiffers, Source, TooLarge, Write, Memory}
use Rattle.ix_merge.proofs.Covering.{documents_under, once, laid_cover, covered_below, covered_behind}

-- an element of a list is its first or one of the others
pub contains_cases : {A : Type 0} (x : A) (xs : List A) (y : A) → Contains (x ∷ xs) y → (x ≡ y) ⊎ Contains xs y
contains_cases x xs y (zero, within, is) = inl is
contains_cases x xs y (suc k, within, is) = inr (k, omega (arith, within), is)

pub contains_later : {A : Type 0} (x : A) (xs : List A) (y : A) → Contains xs y → Contains (x ∷ xs) y
contains_later x xs y (k, within, is) = (suc k, omega (arith, within), is)

pub contains_now : {A : Type 0} (x : A) (xs : List A) → Contains (x ∷ xs) x
contains_now x xs = (0, omega arith, refl)

pub slice_get_left : {A : Type 0} (xs ys : List A) (k : ℕ) → k < length xs → slice_get (xs ++ ys) k ≡ slice_get xs k
slice_get_left [] ys k within = absurd (omega (arith, within))
slice_get_left (x ∷ xs) ys zero within = refl
slice_get_left (x ∷ xs) ys (suc k) within = slice_get_left xs ys k (omega (arith, within))

pub slice_get_right : {A : Type 0} (xs ys : List A) (n k : ℕ) → n ≡ length xs + k → slice_get (xs ++ ys) n ≡ slice_get ys k
slice_get_right [] ys n k at = ap (slice_get ys) (at ∙ omega arith)
slice_get_right (x ∷ xs) ys zero k at = absurd (omega (arith, at))
slice_get_right (x ∷ xs) ys (suc n) k at = slice_get_right xs ys n k (omega (arith, at))

-- none of the heads begins before the number from which they are laid
laid_from : (from : ℕ) (hs : List Heading) → AreLaid from hs → (h : Heading) → Contains hs h → from ≤ h.first
laid_from from [] laid h (k, within, is) = absurd (omega (arith, within))
laid_from from (g ∷ gs) laid h among =
    elim (contains_cases g gs h among) [
      | inl same ↦ omega (arith, laid.0, ap first_of same)
      | inr later ↦ omega (arith, laid_from (from + length g.rows) gs laid.1 h later)
    ]

-- the rows of each head stand at its first number
pub laid_rows : (from : ℕ) (hs : List Heading) → AreLaid from hs → (h : Heading) → Contains hs h → (n k : ℕ) → n < length h.rows → from + k ≡ h.first + n → slice_get (flat_map rows_of hs) k ≡ slice_get h.rows n
laid_rows from [] laid h (k, within, is) n place below at = absurd (omega (arith, within))
laid_rows from (g ∷ gs) laid h among n k below at =
    elim (contains_cases g gs h among) [
      | inl same ↦
          let here : k ≡ n = omega (arith, laid.0, ap first_of same, at) in
          let rows : g.rows ≡ h.rows = ap rows_of same in
          slice_get_left g.rows (flat_map rows_of gs) k (omega (arith, here, below, ap length rows)) ∙ ap₂ (λ (rs : List DocumentRow) (m : ℕ). slice_get rs m) rows here
      | inr later ↦
          let low = laid_from (from + length g.rows) gs laid.1 h later in
          slice_get_right g.rows (flat_map rows_of gs) k (k - length g.rows) (omega (arith, low, at))
          ∙ laid_rows (from + length g.rows) gs laid.1 h later n (k - length g.rows) below (omega (arith, low, at))
    ]

-- the names of lawful heads are names
pub names_laid : (hs : List Heading) → All IsLawfulHeading hs → All (λ row. IsName row.name) (flat_map rows_of hs)
names_laid [] lawful = All-nil (λ (row : DocumentRow). IsName row.name)
names_laid (h ∷ hs) lawful =
    All-append (λ (row : DocumentRow). IsName row.name) h.rows (flat_map rows_of hs)
    (All-head IsLawfulHeading h hs lawful).names
    (names_laid hs (All-tail IsLawfulHeading h hs lawful))

-- what fails the test adds nothing to a sum
pub sum_by_filter : {A : Type 0} (f : A → ℕ) (p : A → Bool) → ((x : A) → p x ≡ false → f x ≡ 0) → (xs : List A) → sum_by f (filter p xs) ≡ sum_by f xs
sum_by_filter f p none [] = refl
sum_by_filter f p none (x ∷ xs) =
    let rest = sum_by_filter f p none xs in
    elim (cases_Bool (p x)) [
      | inl passes ↦ ap (sum_by f) (cond-true (p x) (x ∷ filter p xs) (filter p xs) passes) ∙ sum_by-cons f x (filter p xs) ∙ ap (λ n. f x + n) rest ∙ sym (sum_by-cons f x xs)
      | inr fails ↦ ap (sum_by f) (cond-false (p x) (x ∷ filter p xs) (filter p xs) fails) ∙ omega (arith, rest, none x fails, sum_by-cons f x xs)
    ]

-- an element that passes the test stands in the filtered list
pub contains_filtered : {A : Type 0} (p : A → Bool) (xs : List A) (x : A) → Contains xs x → p x ≡ true → Contains (filter p xs) x
contains_filtered p [] x (k, within, is) passes = absurd (omega (arith, within))
contains_filtered {A} p (y ∷ ys) x among passes =
    let P : List A → Type 0 = λ l. Contains l x in
    elim (cases_Bool (p y)) [
      | inl stays ↦ subst P (sym (cond-true (p y) (y ∷ filter p ys) (filter p ys) stays))
          (elim (contains_cases y ys x among) [
            | inl same ↦ subst (λ (z : A). Contains (y ∷ filter p ys) z) same (contains_now y (filter p ys))
            | inr later ↦ contains_later y (filter p ys) x (contains_filtered p ys x later passes)
          ])
      | inr fails ↦ subst P (sym (cond-false (p y) (y ∷ filter p ys) (filter p ys) fails))
          (elim (contains_cases y ys x among) [
            | inl same ↦ absurd (cc (ap p same, passes, fails))
            | inr later ↦ contains_filtered p ys x later passes
          ])
    ]

no_rows : (h : Heading) → has_documents h ≡ false → length h.rows ≡ 0
no_rows h none = omega (arith, ltb-false 0 (length h.rows) none)

no_tokens : (rows : List DocumentRow) → length rows ≡ 0 → tokens_in rows ≡ 0
no_tokens [] none = refl
no_tokens (row ∷ rows) none = absurd (omega (arith, none))

never_covered : (n : ℕ) (h : Heading) → has_documents h ≡ false → once n h ≡ 0
never_covered n h none =
    let rows = no_rows h none in
    cond-false (covers n h) 1 0
    (elim (cases_lt n h.first) [
      | inl low ↦ covered_below n h low
      | inr high ↦ covered_behind n h (omega (arith, rows, high))
    ])

module _ (hs sorted : List Heading) (moved : IsPermutation (filter has_documents hs) sorted) where
  -- both cover each number as often
  pub times_sorted : (n : ℕ) → times_covered hs n ≡ times_covered sorted n
  times_sorted n =
      sym (sum_by_filter (once n) has_documents (never_covered n) hs)
      ∙ sym (sum_by-IsPermutation (once n) (filter has_documents hs) sorted moved)

  pub gap_sorted : (n : ℕ) → IsGap sorted n → IsGap hs n
  gap_sorted n gap = record {
    before = λ lower below. times_sorted lower ∙ gap.before lower below;
    none = times_sorted n ∙ gap.none;
    greater = gap.greater;
    behind = gap.behind;
    covered = omega (arith, times_sorted gap.greater, gap.covered);
  }

  pub overlap_sorted : (n : ℕ) → IsOverlap sorted n → IsOverlap hs n
  overlap_sorted n overlap = record {
    before = λ lower below. times_sorted lower ∙ overlap.before lower below;
    several = omega (arith, times_sorted n, overlap.several);
  }

  pub cover_sorted : AreLaid 0 sorted → Cover hs (documents_under sorted)
  cover_sorted laid =
      let cover = laid_cover sorted laid in
      record {
        once = λ n below. times_sorted n ∙ cover.once n below;
        no_other = λ n behind. times_sorted n ∙ cover.no_other n behind;
      }

  tokens_sorted : tokens_in (flat_map rows_of sorted) ≡ tokens_under hs
  tokens_sorted =
      tokens_flat sorted
      ∙ sum_by-IsPermutation (λ (h : Heading). tokens_in h.rows) (filter has_documents hs) sorted moved
      ∙ sum_by_filter (λ (h : Heading). tokens_in h.rows) has_documents (λ h none. no_tokens h.rows (no_rows h none)) hs
    where
      tokens_flat : (gs : List Heading) → tokens_in (flat_map rows_of gs) ≡ tokens_under gs
      tokens_flat [] = refl
      tokens_flat (g ∷ gs) =
          sum_by-append (λ (row : DocumentRow). row.tokens) g.rows (flat_map rows_of gs)
          ∙ ap (λ n. tokens_in g.rows + n) (tokens_flat gs)
          ∙ sym (sum_by-cons (λ (h : Heading). tokens_in h.rows) g gs)

  -- the rows of the heads in order are those of the sources
  pub rows_sorted : AreLaid 0 sorted → AreRowsOf hs (flat_map rows_of sorted)
  rows_sorted laid =
      let P : ℕ → Type 0 = λ count. Cover hs count in
      record {
        cover = subst P (sym (length-flat_map rows_of sorted)) (cover_sorted laid);
        placed = λ k d within n below.
            let h = get_or hs k d in
            let some = lt-ltb 0 (length h.rows) (omega (arith, below)) in
            let among : Contains hs h = (k, within, get_or_itself hs k d within) in
            let there = Contains-permutation (filter has_documents hs) sorted h moved (contains_filtered has_documents hs h among some) in
            laid_rows 0 sorted laid h there n (h.first + n) below (omega arith);
        tokens = tokens_sorted;
      }
    where
      get_or_itself : {A : Type 0} (xs : List A) (k : ℕ) (d : A) → k < length xs → get_or xs k (get_or xs k d) ≡ get_or xs k d
      get_or_itself [] k d within = absurd (omega (arith, within))
      get_or_itself (x ∷ xs) zero d within = refl
      get_or_itself (x ∷ xs) (suc k) d within = get_or_itself xs k d (omega (arith, within))

  -- what is wrong with the cover of the one is wrong with that of the other
  pub refused_sorted : {E : Type 0} (error : MergeError E) → IsCoverFault sorted error → IsRefusal hs error
  refused_sorted (Gap n) fault = gap_sorted n fault
  refused_sorted (Overlap n) fault = overlap_sorted n fault
  refused_sorted StopDiffers fault = absurd fault
  refused_sorted (Source place error) fault = absurd fault
  refused_sorted TooLarge fault = absurd fault
  refused_sorted Write fault = absurd fault
  refused_sorted Memory fault = absurd fault
