-- Ascending lists and their gaps.
use Rattle.std.proofs.Common.{◌≡◌, ℕ, zero, suc, ◌+◌, ◌-◌, ◌<◌, ◌≤◌, List, [], ◌∷◌, ◌++◌, length, get_or, All, refl, ap, ap₂, ◌∙◌, subst, arith}
use Rattle.std.specs.List.Sorted.{IsStrictlyIncreasing}
use Rattle.std.proofs.lemmas.List.Elements.{All-nil, All-cons, All-head, All-tail, All-weaker}
use Rattle.ix_vbyte.specs.Gaps.{Ascends, gaps_from, numbers_from, next_after}

-- ---- ascending lists
pub Ascends-lower : (low less top : ℕ) (xs : List ℕ) → less ≤ low → Ascends low top xs → Ascends less top xs
Ascends-lower low less top [] h a = tt
Ascends-lower low less top (x ∷ xs) h a = (omega arith, a.1, a.2)

pub Ascends-wider : (low top more : ℕ) (xs : List ℕ) → top ≤ more → Ascends low top xs → Ascends low more xs
Ascends-wider low top more [] h a = tt
Ascends-wider low top more (x ∷ xs) h a = (a.0, omega arith, Ascends-wider (x + 1) top more xs h a.2)

-- as many numbers as there is room for
pub length-Ascends : (low top : ℕ) (xs : List ℕ) → low ≤ top → Ascends low top xs → length xs + low ≤ top
length-Ascends low top [] h a = omega arith
length-Ascends low top (x ∷ xs) h a = omega (arith, length-Ascends (x + 1) top xs (omega arith) a.2)

pub next_after-push : (next : ℕ) (xs : List ℕ) (x : ℕ) → next_after next (xs ++ x ∷ []) ≡ x + 1
next_after-push next [] x = refl
next_after-push next (y ∷ ys) x = next_after-push (y + 1) ys x

pub Ascends-push : (low top : ℕ) (xs : List ℕ) (x : ℕ) → Ascends low top xs → next_after low xs ≤ x → x < top → Ascends low top (xs ++ x ∷ [])
Ascends-push low top [] x a above below = (above, below, tt)
Ascends-push low top (y ∷ ys) x a above below = (a.0, a.1, Ascends-push (y + 1) top ys x a.2 above below)

-- and back
pub Ascends-pop : (low top : ℕ) (xs : List ℕ) (x : ℕ) → Ascends low top (xs ++ x ∷ []) → Ascends low top xs × (next_after low xs ≤ x) × (x < top)
Ascends-pop low top [] x a = (tt, a.0, a.1)
Ascends-pop low top (y ∷ ys) x a = let r = Ascends-pop (y + 1) top ys x a.2 in ((a.0, a.1, r.0), r.1, r.2)

pub next_after-le : (low top : ℕ) (xs : List ℕ) → low ≤ top → Ascends low top xs → next_after low xs ≤ top
next_after-le low top [] h a = h
next_after-le low top (x ∷ xs) h a = next_after-le (x + 1) top xs (omega arith) a.2

-- ---- in words: each number is below the next one, and all lie in range
rising_tail : (x : ℕ) (xs : List ℕ) → IsStrictlyIncreasing (x ∷ xs) → IsStrictlyIncreasing xs
rising_tail x xs rising k h =
    let next : suc k + 1 ≡ suc (k + 1) = omega arith in
    subst (λ n. get_or xs k 0 < get_or (x ∷ xs) n 0) next (rising (suc k) (omega arith))

pub Ascends-rising : (low top : ℕ) (xs : List ℕ) → Ascends low top xs → IsStrictlyIncreasing xs
Ascends-rising low top [] a k h = absurd (omega arith)
Ascends-rising low top (x ∷ []) a k h = absurd (omega arith)
Ascends-rising low top (x ∷ y ∷ ys) a zero h = omega arith
Ascends-rising low top (x ∷ y ∷ ys) a (suc k) h =
    let next : suc (k + 1) ≡ suc k + 1 = omega arith in
    subst (λ n. get_or (y ∷ ys) k 0 < get_or (x ∷ y ∷ ys) n 0) next (Ascends-rising (x + 1) top (y ∷ ys) a.2 k (omega arith))

pub Ascends-within : (low top : ℕ) (xs : List ℕ) → Ascends low top xs → All (λ x. (low ≤ x) × (x < top)) xs
Ascends-within low top [] a = All-nil (λ x. (low ≤ x) × (x < top))
Ascends-within low top (x ∷ xs) a =
    All-cons (λ y. (low ≤ y) × (y < top)) x xs (a.0, a.1)
    (All-weaker (λ y. (x + 1 ≤ y) × (y < top)) (λ y. (low ≤ y) × (y < top)) (λ y h. (omega arith, h.1)) xs (Ascends-within (x + 1) top xs a.2))

from_next : (x low top : ℕ) (xs : List ℕ) → IsStrictlyIncreasing (x ∷ xs) → Ascends low top xs → Ascends (x + 1) top xs
from_next x low top [] rising a = tt
from_next x low top (y ∷ ys) rising a = let first : x < y = rising 0 (omega arith) in (omega arith, a.1, a.2)

pub Ascends-from : (low top : ℕ) (xs : List ℕ) → IsStrictlyIncreasing xs → All (λ x. (low ≤ x) × (x < top)) xs → Ascends low top xs
Ascends-from low top [] rising within = tt
Ascends-from low top (x ∷ xs) rising within =
    let P : ℕ → Type 0 = λ y. (low ≤ y) × (y < top) in
    let first = All-head P x xs within in
    (first.0, first.1, from_next x low top xs rising (Ascends-from low top xs (rising_tail x xs rising) (All-tail P x xs within)))

-- ---- gaps
pub length-gaps_from : (next : ℕ) (xs : List ℕ) → length (gaps_from next xs) ≡ length xs
length-gaps_from next [] = refl
length-gaps_from next (x ∷ xs) = ap suc (length-gaps_from (x + 1) xs)

pub gaps_from-push : (next : ℕ) (xs : List ℕ) (x : ℕ) → gaps_from next (xs ++ x ∷ []) ≡ gaps_from next xs ++ (x + 1 - next_after next xs) ∷ []
gaps_from-push next [] x = refl
gaps_from-push next (y ∷ ys) x = ap (λ gs. (y + 1 - next) ∷ gs) (gaps_from-push (y + 1) ys x)

pub gaps_from-positive : (next top : ℕ) (xs : List ℕ) → Ascends next top xs → All (λ gap. 0 < gap) (gaps_from next xs)
gaps_from-positive next top [] a = All-nil (λ gap. 0 < gap)
gaps_from-positive next top (x ∷ xs) a = All-cons (λ gap. 0 < gap) (x + 1 - next) (gaps_from (x + 1) xs) (omega arith) (gaps_from-positive (x + 1) top xs a.2)

pub numbers_from-gaps_from : (next top : ℕ) (xs : List ℕ) → Ascends next top xs → numbers_from next (gaps_from next xs) ≡ xs
numbers_from-gaps_from next top [] a = refl
numbers_from-gaps_from next top (x ∷ xs) a =
    let again : next + (x + 1 - next) - 1 ≡ x = omega arith in
    let above : next + (x + 1 - next) ≡ x + 1 = omega arith in
    ap₂ (λ y n. y ∷ numbers_from n (gaps_from (x + 1) xs)) again above ∙ ap (λ ys. x ∷ ys) (numbers_from-gaps_from (x + 1) top xs a.2)

pub gaps_from-numbers_from : (next : ℕ) (gaps : List ℕ) → All (λ gap. 0 < gap) gaps → gaps_from next (numbers_from next gaps) ≡ gaps
gaps_from-numbers_from next [] pos = refl
gaps_from-numbers_from next (g ∷ gs) pos =
    let first : 0 < g = All-head (λ gap. 0 < gap) g gs pos in
    let again : next + g - 1 + 1 - next ≡ g = omega arith in
    let above : next + g - 1 + 1 ≡ next + g = omega arith in
    ap₂ (λ h n. h ∷ gaps_from n (numbers_from (next + g) gs)) again above ∙ ap (λ hs. g ∷ hs) (gaps_from-numbers_from (next + g) gs (All-tail (λ gap. 0 < gap) g gs pos))

-- the first gap is counted from -1
pub gaps_from-first : (xs : List ℕ) → 0 < length xs → get_or (gaps_from 0 xs) 0 0 ≡ get_or xs 0 0 + 1
gaps_from-first [] h = absurd (omega arith)
gaps_from-first (x ∷ xs) h = omega arith

-- each gap after the first is a difference of neighbours
pub gaps_from-differences : (next top : ℕ) (xs : List ℕ) (k : ℕ) → Ascends next top xs → k + 1 < length xs → get_or (gaps_from next xs) (k + 1) 0 + get_or xs k 0 ≡ get_or xs (k + 1) 0
gaps_from-differences next top [] k a h = absurd (omega arith)
gaps_from-differences next top (x ∷ []) k a h = absurd (omega arith)
gaps_from-differences next top (x ∷ y ∷ ys) zero a h = omega arith
gaps_from-differences next top (x ∷ y ∷ ys) (suc k) a h =
    let more : suc (k + 1) ≡ suc k + 1 = omega arith in
    subst (λ n. get_or (gaps_from next (x ∷ y ∷ ys)) n 0 + get_or (y ∷ ys) k 0 ≡ get_or (x ∷ y ∷ ys) n 0) more (gaps_from-differences (x + 1) top (y ∷ ys) k a.2 (omega arith))
