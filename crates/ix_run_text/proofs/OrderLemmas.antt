-- An ascending list that grows by a text above its last.
use Rattle.std.proofs.Common.{◌≡◌, ℕ, zero, suc, ◌+◌, ◌≤◌, take, drop, take-append-drop, add-one, ◌-◌, ◌<◌, List, [], ◌∷◌, ◌++◌, length, get_or, Bool, true, IsTrue, ◌↔◌, Ordering, Less, Equal, Greater, refl, sym, ap, ◌∙◌, subst, arith}
use Rattle.std.proofs.lemmas.Cmp.{nat_list_cmp_total}
use Rattle.std.proofs.lemmas.List.{get_or_default, take_more, drop_more, nil_from_length, length-take}
use Rattle.std.specs.Ordering.{is_lt}
use Rattle.std.specs.Cmp.Lexicographic.{slice_cmp}
use Rattle.std.specs.List.{AllByRecursion}
use Rattle.std.specs.List.Sorted.{IsStrictlySortedBy}
use Rattle.std.specs.Ordering.{nat_cmp}
use Rattle.ix_text.specs.ByteOrder.{IsAscending}
use Rattle.ix_run_text.specs.Orders.{StandsAbove}

abbrev Below : List ℕ → List ℕ → Type 0
Below x y = slice_cmp nat_cmp x y ≡ Less

last_of : List ℕ → List (List ℕ) → List ℕ
last_of x [] = x
last_of x (y ∷ ys) = last_of y ys

last_at : (x : List ℕ) (xs : List (List ℕ)) (none : List ℕ) → get_or (x ∷ xs) (length xs) none ≡ last_of x xs
unfolding last_of
last_at x [] none = refl
last_at x (y ∷ ys) none = last_at y ys none

above_last : (x : List ℕ) (xs : List (List ℕ)) (text : List ℕ) → StandsAbove (x ∷ xs) text → Below (last_of x xs) text
above_last x xs text above =
    let place : length (x ∷ xs) - 1 ≡ length xs = omega arith in
    subst (λ (last : List ℕ). Below last text) (ap (λ (n : ℕ). get_or (x ∷ xs) n []) place ∙ last_at x xs []) (above [] (omega arith))

all_above : (x y : List ℕ) (texts : List (List ℕ)) → Below x y → AllByRecursion (λ z. Below y z) texts → AllByRecursion (λ z. Below x z) texts
all_above x y [] less all = tt
all_above x y (z ∷ zs) less all = (nat_list_cmp_total.trans x y z less all.0, all_above x y zs less all.1)

ascends_behind : (x : List ℕ) (xs : List (List ℕ)) (text : List ℕ) → IsAscending (x ∷ xs) → Below (last_of x xs) text → IsAscending ((x ∷ xs) ++ text ∷ [])
unfolding IsStrictlySortedBy last_of
ascends_behind x [] text up less = ((less, tt), (tt, tt))
ascends_behind x (y ∷ ys) text up less =
    let rest = ascends_behind y ys text up.1 less in
    ((up.0.0, all_above x y (ys ++ text ∷ []) up.0.0 rest.0), rest)

-- one more text above the last
pub ascends-push : (texts : List (List ℕ)) (text : List ℕ) → IsAscending texts → StandsAbove texts text → IsAscending (texts ++ text ∷ [])
unfolding IsStrictlySortedBy
ascends-push [] text up above = (tt, tt)
ascends-push (x ∷ xs) text up above = ascends_behind x xs text up (above_last x xs text above)

below_next : (x : List ℕ) (xs : List (List ℕ)) (text : List ℕ) (more : List (List ℕ)) → IsAscending ((x ∷ xs) ++ text ∷ more) → Below (last_of x xs) text
unfolding IsStrictlySortedBy last_of
below_next x [] text more up = up.0.0
below_next x (y ∷ ys) text more up = below_next y ys text more up.1

-- a text of an ascending list stands above those before it
pub stands_above : (texts : List (List ℕ)) (text : List ℕ) (more : List (List ℕ)) → IsAscending (texts ++ text ∷ more) → StandsAbove texts text
stands_above [] text more up none some = absurd (omega arith)
stands_above (x ∷ xs) text more up none some =
    let place : length (x ∷ xs) - 1 ≡ length xs = omega arith in
    subst (λ (last : List ℕ). Below last text) (sym (ap (λ (n : ℕ). get_or (x ∷ xs) n none) place ∙ last_at x xs none)) (below_next x xs text more up)

is_lt-Less : (order : Ordering) → is_lt order ≡ true → order ≡ Less
is_lt-Less Less e = refl
is_lt-Less Equal e = absurd cc
is_lt-Less Greater e = absurd cc

-- the test of a text against the last one
pub above_by : (texts : List (List ℕ)) (text last : List ℕ) (test : Bool) → 0 < length texts → last ≡ get_or texts (length texts - 1) [] → test ≡ is_lt (slice_cmp nat_cmp last text)
    → IsTrue test ↔ StandsAbove texts text
above_by texts text last test some is by = (
  λ yes none more.
      let less : slice_cmp nat_cmp last text ≡ Less = is_lt-Less (slice_cmp nat_cmp last text) (sym by ∙ yes) in
      subst (λ (x : List ℕ). Below x text) (is ∙ get_or_default texts (length texts - 1) [] none (omega arith)) less,
  λ above. by ∙ ap is_lt (subst (λ (x : List ℕ). Below x text) (sym is) (above [] some)),
)

-- an ascending list is one whose texts each stand above those before them
pub ascending_from_above : (texts : List (List ℕ)) → ((n : ℕ) (none : List ℕ) → n < length texts → StandsAbove (take n texts) (get_or texts n none)) → (n : ℕ) → n ≤ length texts
    → IsAscending (take n texts)
unfolding IsStrictlySortedBy
ascending_from_above texts above zero le = subst IsAscending (sym (nil_from_length (take 0 texts) (omega (arith, length-take 0 texts)))) tt
ascending_from_above texts above (suc n) le =
    subst IsAscending (sym (ap (λ (k : ℕ). take k texts) (sym (add-one n)) ∙ take_more texts n [] (omega arith)))
    (ascends-push (take n texts) (get_or texts n []) (ascending_from_above texts above n (omega arith)) (above n [] (omega arith)))

pub above_from_ascending : (texts : List (List ℕ)) → IsAscending texts → (n : ℕ) (none : List ℕ) → n < length texts → StandsAbove (take n texts) (get_or texts n none)
above_from_ascending texts up n none lt =
    stands_above (take n texts) (get_or texts n none) (drop (n + 1) texts)
    (subst IsAscending (sym (take-append-drop n texts) ∙ ap (λ (xs : List (List ℕ)). take n texts ++ xs) (drop_more texts n none lt)) up)
