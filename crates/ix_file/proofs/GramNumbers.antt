-- The gaps of the numbers under a gram, one behind another.
use Rattle.std.proofs.Common.{◌≡◌, ℕ, ◌+◌, ◌-◌, ◌<◌, ◌≤◌, List, [], ◌∷◌, ◌++◌, length, Contains, inl, inr, refl, sym, ap, ap₂, subst, ◌∙◌, ⊎_elim, arith}
use Rattle.std.proofs.lemmas.Bool.{cases_eq, cases_lt}
use Rattle.std.proofs.lemmas.Grind.{flat_map-append}
use Rattle.std.proofs.lemmas.List.{append_assoc, append-nil}
use Rattle.std.proofs.lemmas.List.Elements.{All-contains, Contains-append_cases}
use Rattle.ix_text.proofs.AscendingLists.{contains_cases, contains_first, contains_later, contains_none}
use Rattle.ix_vbyte.specs.Code.{code_of}
use Rattle.ix_vbyte.specs.Gaps.{Ascends, gaps_from, gaps_of, next_after}
use Rattle.ix_vbyte.specs.Postings.{codes_of}
use Rattle.ix_vbyte.proofs.Gaps.{Ascends-within, gaps_from-push}
use Rattle.ix_vbyte.proofs.Values.{code_of-apart}
use Rattle.ix_file.specs.OpenedGrams.{gap_codes}

-- one number more
pub codes-push : (numbers : List ℕ) (x : ℕ) → gap_codes (numbers ++ x ∷ []) ≡ gap_codes numbers ++ code_of (x + 1 - next_after 0 numbers)
codes-push numbers x =
    let gap : ℕ = x + 1 - next_after 0 numbers in
    ap codes_of (gaps_from-push 0 numbers x) ∙ flat_map-append code_of (gaps_of numbers) (gap ∷ []) ∙ ap (λ bytes. gap_codes numbers ++ bytes) (append-nil (code_of gap))

-- ---- ascending numbers of which some were read

pub last_number : (low : ℕ) (xs : List ℕ) (n : ℕ) → next_after low xs ≡ n + 1 → ¬ (low ≡ n + 1) → Contains xs n
last_number low [] n is other = absurd (other is)
last_number low (x ∷ xs) n is other =
    ⊎_elim (λ (same : x ≡ n). subst (λ (m : ℕ). Contains (x ∷ xs) m) same (contains_first x xs))
    (λ (apart : ¬ (x ≡ n)). contains_later x xs n (last_number (x + 1) xs n is (λ e. apart (omega (arith, e)))))
    (cases_eq x n)

after_low : (low top : ℕ) (xs : List ℕ) → Ascends low top xs → low ≤ next_after low xs
after_low low top [] up = omega arith
after_low low top (x ∷ xs) up = omega (arith, up.0, after_low (x + 1) top xs up.2)

-- those that were read are below the next
pub below_next : (low top : ℕ) (xs : List ℕ) (n : ℕ) → Ascends low top xs → Contains xs n → n < next_after low xs
below_next low top [] n up has = absurd (contains_none n has)
below_next low top (x ∷ xs) n up has =
    elim (contains_cases x xs n has) [ inl same ↦ omega (arith, same, after_low (x + 1) top xs up.2) | inr later ↦ below_next (x + 1) top xs n up.2 later ]

behind : (low top : ℕ) (done more : List ℕ) → Ascends low top (done ++ more) → Ascends low top done × Ascends (next_after low done) top more
behind low top [] more up = (tt, up)
behind low top (d ∷ done) more up = let b = behind (d + 1) top done more up.2 in ((up.0, up.1, b.0), b.1)

-- where all below a number were read, the next is not below it
pub next_not_below : (top number : ℕ) (done : List ℕ) (y : ℕ) (ys : List ℕ) → Ascends 0 top (done ++ y ∷ ys) → (y < number → Contains done y) → number ≤ y
next_not_below top number done y ys up all =
    let b = behind 0 top done (y ∷ ys) up in
    ⊎_elim (λ (low : y < number). absurd (omega (arith, below_next 0 top done y b.0 (all low), b.1.0))) (λ (high : number ≤ y). high) (cases_lt y number)

-- and if the number is among them, it is the next
pub next_is : (top number : ℕ) (done : List ℕ) (y : ℕ) (ys : List ℕ) → Ascends 0 top (done ++ y ∷ ys) → (y < number → Contains done y) → next_after 0 done ≤ number → Contains (done ++ y ∷ ys) number → y ≡ number
next_is top number done y ys up all low has =
    let b = behind 0 top done (y ∷ ys) up in
    elim (Contains-append_cases done (y ∷ ys) number has) [
      | inl read ↦ absurd (omega (arith, below_next 0 top done number b.0 read, low))
      | inr left ↦
          elim (contains_cases y ys number left) [
            | inl same ↦ same
            | inr later ↦
                let above = All-contains (λ (x : ℕ). (y + 1 ≤ x) × (x < top)) ys number (Ascends-within (y + 1) top ys b.1.2) later in
                absurd (omega (arith, above.0, next_not_below top number done y ys up all))
          ]
    ]

-- ---- other numbers that the same bytes code

-- what numbers go on with behind those that were read
pub record GoOn (next : ℕ) (done xs : List ℕ) (rest other : List ℕ) : Type 0 where
  pub more : List ℕ
  pub whole : xs ≡ done ++ more
  pub left : rest ≡ codes_of (gaps_from (next_after next done) more) ++ other

gaps_apart : (m n : ℕ) (xs ys rest other : List ℕ) → (code_of m ++ xs) ++ rest ≡ (code_of n ++ ys) ++ other → (m ≡ n) × (xs ++ rest ≡ ys ++ other)
gaps_apart m n xs ys rest other e = code_of-apart m n (xs ++ rest) (ys ++ other) (sym (append_assoc (code_of m) xs rest) ∙ e ∙ append_assoc (code_of n) ys other)

go_on_more : (next x d : ℕ) (done xs rest other : List ℕ) → x ≡ d → GoOn (d + 1) done xs rest other → GoOn next (d ∷ done) (x ∷ xs) rest other
go_on_more next x d done xs rest other same g = record { more = g.more; whole = ap₂ (λ (n : ℕ) (ys : List ℕ). n ∷ ys) same g.whole; left = g.left }

pub go_on : (next top : ℕ) (done xs : List ℕ) (rest other : List ℕ) → Ascends next top done → Ascends next top xs → length done ≤ length xs
    → codes_of (gaps_from next done) ++ rest ≡ codes_of (gaps_from next xs) ++ other → GoOn next done xs rest other
go_on next top [] xs rest other a b long e = record { more = xs; whole = refl; left = e }
go_on next top (d ∷ done) [] rest other a b long e = absurd (omega arith)
go_on next top (d ∷ done) (x ∷ xs) rest other a b long e =
    let (gap, behind) = gaps_apart (d + 1 - next) (x + 1 - next) (codes_of (gaps_from (d + 1) done)) (codes_of (gaps_from (x + 1) xs)) rest other e in
    let same : x ≡ d = omega (arith, gap, a.0, b.0) in
    let ups : Ascends (d + 1) top xs = subst (λ (n : ℕ). Ascends (n + 1) top xs) same b.2 in
    let behind_one : codes_of (gaps_from (d + 1) done) ++ rest ≡ codes_of (gaps_from (d + 1) xs) ++ other =
    subst (λ (n : ℕ). codes_of (gaps_from (d + 1) done) ++ rest ≡ codes_of (gaps_from (n + 1) xs) ++ other) same behind in
    go_on_more next x d done xs rest other same (go_on (d + 1) top done xs rest other a.2 ups (omega arith) behind_one)
