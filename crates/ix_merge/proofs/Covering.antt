-- How often heads cover a number, where each begins at the end of the one before it.
use Rattle.std.proofs.Common.{◌≡◌, ℕ, suc, ◌+◌, ◌<◌, ◌≤◌, List, [], ◌∷◌, ◌++◌, true, false, cond, length, map, take, drop, get_or, sum_by, refl, sym, ap, ◌∙◌, subst, arith, inl, inr}
use Rattle.std.proofs.lemmas.Bool.{and_left, and_right, and_from, lt-leb, le-ltb, lt-ltb, le-leb, ltb-true, cond-true, cond-false, cases_lt}
use Rattle.std.proofs.lemmas.List.{get_or-drop, get_or_default, get_or-map, length-drop, length-map, take_more}
use Rattle.std.proofs.lemmas.List.Sums.{sum_by-cons, sum_by_push, sum_by-take-drop, get_or-le-sum_by}
use Rattle.std.specs.List.{AllPass}
use Rattle.std.specs.List.Sorted.{IsNonDecreasingBy}
use Rattle.ix_run.specs.Heads.{Heading}
use Rattle.ix_merge.specs.Covers.{Cover, IsGap, IsOverlap, covers, times_covered}
use Rattle.ix_merge.specs.Headings.{AreLaid, first_of, has_documents}

-- how many documents the sources have
abbrev pub documents_under : List Heading → ℕ
documents_under headings = sum_by (λ heading. length heading.rows) headings

pub covered_below : (n : ℕ) (h : Heading) → n < h.first → covers n h ≡ false
covered_below n h low = and_left _ _ (lt-leb h.first n low)

pub covered_behind : (n : ℕ) (h : Heading) → h.first + length h.rows ≤ n → covers n h ≡ false
covered_behind n h high = and_right _ _ (le-ltb n (h.first + length h.rows) high)

pub covered_within : (n : ℕ) (h : Heading) → h.first ≤ n → n < h.first + length h.rows → covers n h ≡ true
covered_within n h low high = and_from _ _ (le-leb h.first n low) (lt-ltb n (h.first + length h.rows) high)

-- one more head
abbrev pub once : ℕ → Heading → ℕ
once n h = cond (covers n h) 1 0

times_more : (n : ℕ) (h : Heading) (hs : List Heading) → covers n h ≡ true → times_covered (h ∷ hs) n ≡ 1 + times_covered hs n
times_more n h hs passes = sum_by-cons (once n) h hs ∙ ap (λ m. m + times_covered hs n) (cond-true (covers n h) 1 0 passes)

times_same : (n : ℕ) (h : Heading) (hs : List Heading) → covers n h ≡ false → times_covered (h ∷ hs) n ≡ times_covered hs n
times_same n h hs fails = sum_by-cons (once n) h hs ∙ ap (λ m. m + times_covered hs n) (cond-false (covers n h) 1 0 fails) ∙ omega arith

-- heads that are laid from a number on cover each number behind it once, up to their end
pub record AreCounted (from : ℕ) (hs : List Heading) (n : ℕ) : Type 0 where
  pub low : n < from → times_covered hs n ≡ 0
  pub within : from ≤ n → n < from + documents_under hs → times_covered hs n ≡ 1
  pub high : from + documents_under hs ≤ n → times_covered hs n ≡ 0

pub laid_times : (from : ℕ) (hs : List Heading) → AreLaid from hs → (n : ℕ) → AreCounted from hs n
laid_times from [] laid n = record { low = λ _. refl; within = λ low high. absurd (omega (arith, low, high)); high = λ _. refl }
laid_times from (h ∷ hs) laid n =
    let rest = laid_times (from + length h.rows) hs laid.1 n in
    let total = sum_by-cons (λ (g : Heading). length g.rows) h hs in
    let at = laid.0 in
    record {
      low = λ low. times_same n h hs (covered_below n h (omega (arith, at, low))) ∙ rest.low (omega (arith, low));
      within = λ low high. elim (cases_lt n (from + length h.rows)) [
        | inl before ↦ times_more n h hs (covered_within n h (omega (arith, at, low)) (omega (arith, at, before))) ∙ ap (λ m. 1 + m) (rest.low before)
        | inr behind ↦ times_same n h hs (covered_behind n h (omega (arith, at, behind))) ∙ rest.within behind (omega (arith, high, total))
      ];
      high = λ high. times_same n h hs (covered_behind n h (omega (arith, at, high, total))) ∙ rest.high (omega (arith, high, total));
    }

-- so that they cover each number below their end once, where the first begins at 0
pub laid_cover : (hs : List Heading) → AreLaid 0 hs → Cover hs (documents_under hs)
laid_cover hs laid = record {
  once = λ n below. (laid_times 0 hs laid n).within (omega arith) (omega (arith, below));
  no_other = λ n behind. (laid_times 0 hs laid n).high (omega (arith, behind));
}

-- one head more that begins at the end
pub laid_more : (from : ℕ) (hs : List Heading) (h : Heading) → AreLaid from hs → h.first ≡ from + documents_under hs → AreLaid from (hs ++ h ∷ [])
laid_more from [] h laid at = (at ∙ omega arith, laid)
laid_more from (g ∷ gs) h laid at =
    (laid.0, laid_more (from + length g.rows) gs h laid.1 (at ∙ omega (arith, sum_by-cons (λ (g : Heading). length g.rows) g gs)))

-- heads that all begin behind a number do not cover it
pub times_below : (n : ℕ) (hs : List Heading) → ((k : ℕ) (d : Heading) → k < length hs → n < (get_or hs k d).first) → times_covered hs n ≡ 0
times_below n [] low = refl
times_below n (h ∷ hs) low =
    times_same n h hs (covered_below n h (low 0 h (omega arith)))
    ∙ times_below n hs (λ k d within. low (suc k) d (omega (arith, within)))

module _ (hs : List Heading) (i : ℕ) (h : Heading) (within : i < length hs) (is : get_or hs i h ≡ h)
    (sorted : IsNonDecreasingBy first_of hs) (documented : AllPass has_documents hs) (laid : AreLaid 0 (take i hs)) where
  -- below the first number of a head, only those before it cover
  times_before : (n : ℕ) → n < h.first → times_covered hs n ≡ times_covered (take i hs) n
  times_before n below =
      let none = times_below n (drop i hs) (λ k d inside.
      let place : get_or (drop i hs) k d ≡ get_or hs (i + k) d = get_or-drop i hs k d in
      let bound : i + k < length hs = omega (arith, inside, length-drop i hs) in
      let least : first_of (get_or hs i d) ≤ first_of (get_or hs (i + k) d) = sorted i (i + k) d (omega arith) bound in
      let here : first_of (get_or hs i d) ≡ h.first = ap first_of (get_or_default hs i d h within ∙ is) in
      omega (arith, below, least, here, ap first_of place)) in
      sym (sum_by-take-drop (once n) hs i) ∙ omega (arith, none)

  counted : (n : ℕ) → AreCounted 0 (take i hs) n
  counted n = laid_times 0 (take i hs) laid n

  has_some : 0 < length h.rows
  has_some = ltb-true 0 (length h.rows) (ap has_documents (sym is) ∙ documented i h within)

  covered_itself : covers h.first h ≡ true
  covered_itself = covered_within h.first h (omega arith) (omega (arith, has_some))

  -- the head covers a number
  some_time : (n : ℕ) → covers n h ≡ true → 1 ≤ times_covered (drop i hs) n
  some_time n passes =
      let there : 0 < length (drop i hs) = omega (arith, within, length-drop i hs) in
      let at = get_or-le-sum_by (once n) (drop i hs) 0 h there in
      let here : get_or (drop i hs) 0 h ≡ h = get_or-drop i hs 0 h ∙ ap (λ m. get_or hs m h) (add-zero-right i) ∙ is in
      omega (arith, at, ap (once n) here ∙ cond-true (covers n h) 1 0 passes)
    where
      add-zero-right : (m : ℕ) → m + 0 ≡ m
      add-zero-right m = omega arith

  -- the head begins at the end of those before it
  pub laid_next : h.first ≡ documents_under (take i hs) → AreLaid 0 (take (i + 1) hs) × (documents_under (take (i + 1) hs) ≡ documents_under (take i hs) + length h.rows)
  laid_next at =
      let front : take (i + 1) hs ≡ take i hs ++ h ∷ [] = take_more hs i h within ∙ ap (λ (g : Heading). take i hs ++ g ∷ []) is in
      let P : List Heading → Type 0 = λ l. AreLaid 0 l in (
        subst P (sym front) (laid_more 0 (take i hs) h laid (at ∙ omega arith)),
        ap documents_under front ∙ sum_by_push (λ (g : Heading). length g.rows) (take i hs) h,
      )

  -- the head begins behind the end of those before it
  pub gap_before : documents_under (take i hs) < h.first → IsGap hs (documents_under (take i hs))
  gap_before behind = record {
    before = λ lower below. times_before lower (omega (arith, below, behind)) ∙ (counted lower).within (omega arith) (omega (arith, below));
    none = times_before (documents_under (take i hs)) behind ∙ (counted (documents_under (take i hs))).high (omega arith);
    greater = h.first;
    behind = behind;
    covered = omega (arith, some_time h.first covered_itself, sum_by-take-drop (once h.first) hs i);
  }

  -- the head begins before the end of those before it
  pub overlap_before : h.first < documents_under (take i hs) → IsOverlap hs h.first
  overlap_before low = record {
    before = λ lower below. times_before lower below ∙ (counted lower).within (omega arith) (omega (arith, below, low));
    several = omega (arith, some_time h.first covered_itself, (counted h.first).within (omega arith) (omega (arith, low)), sum_by-take-drop (once h.first) hs i);
  }

-- what stands at a place of a list stands there in what is made of it
pub mapped_at : {A B : Type 0} (f : A → B) (xs : List A) (i : ℕ) (x : A) → i < length xs → x ≡ get_or xs i x → (i < length (map f xs)) × (get_or (map f xs) i (f x) ≡ f x)
mapped_at f xs i x within is = (omega (arith, length-map xs f, within), get_or-map f xs i x (f x) within ∙ ap f (sym is))
