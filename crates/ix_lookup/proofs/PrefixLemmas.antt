-- Terms that begin with a text, and how they are put together.
use Rattle.std.proofs.Common.{◌≡◌, ◌≢◌, ℕ, ◌+◌, ◌<◌, ◌≤◌, ◌↔◌, Bool, true, false, cond, not, IsTrue, List, [], ◌∷◌, ◌++◌, length, take, drop, nat_eq, Less, refl, sym, ap, ◌∙◌, ⊎_elim, arith}
use Rattle.std.proofs.lemmas.Bool.{cases_lt}
use Rattle.std.proofs.lemmas.List.{take-append-drop}
use Rattle.std.proofs.lemmas.List.Sums.{common_prefix_len-le}
use Rattle.std.specs.Cmp.Lexicographic.{slice_cmp}
use Rattle.std.specs.Ordering.{is_lt, nat_cmp, ordering_then}
use Rattle.ix_lookup.specs.Fronts.{HasFront}
use Rattle.ix_lookup.specs.TermOrder.{IsBelow}
use Rattle.ix_lookup.proofs.FrontLemmas.{common, common_past, lt_less, nat_cmp-apart, nat_cmp-same, nat_eq-same}
use Rattle.ix_lookup.proofs.WordsLemmas.{below_trans, not_below_itself, same_front}

take_all : (xs : List ℕ) → take (length xs) xs ≡ xs
take_all [] = refl
take_all (x ∷ xs) = ap (λ ys. x ∷ ys) (take_all xs)

common_front : (front rest : List ℕ) → common (front ++ rest) front ≡ length front
common_front [] [] = refl
common_front [] (y ∷ ys) = refl
common_front (x ∷ xs) rest = ap (λ b. cond b (1 + common (xs ++ rest) xs) 0) (nat_eq-same x) ∙ (let others = common_front xs rest in omega arith)

-- a term begins with a text if it shares all of it
pub front_shared : (front term : List ℕ) → HasFront front term → common term front ≡ length front
front_shared front term has = ap (λ t. common t front) has.1 ∙ common_front front has.0

pub front_from_shared : (front term : List ℕ) → common term front ≡ length front → HasFront front term
front_from_shared front term all = (
  drop (length front) term,
  sym (take-append-drop (length front) term) ∙ ap (λ xs. xs ++ drop (length front) term) (same_front term front (length front) (omega arith) ∙ take_all front),
)

-- The term, put together from the term before if that begins with the text, and otherwise from the text.
pub put_together : (is_held : Bool) (text held before own : List ℕ) (shared : ℕ) → shared ≤ length before → IsTrue is_held ↔ (common before text ≡ length text) → (common before text ≡ length text → held ≡ before)
    → common (take shared before ++ own) text ≡ length text → take shared (cond is_held held text) ++ own ≡ take shared before ++ own
put_together true text held before own shared within has kept all = ap (λ bytes. take shared bytes ++ own) (kept (has.0 refl))
put_together false text held before own shared within has kept all =
    ap (λ bytes. bytes ++ own) (sym (same_front before text shared (⊎_elim (λ (past : common before text < shared). absurd (apart past)) (λ (on : shared ≤ common before text). on) (cases_lt (common before text) shared))))
  where
    apart : common before text < shared → ⊥
    apart past = let found : false ≡ true = has.1 (sym (common_past before own text shared within past) ∙ all) in cc

-- a text that is below a term and is no front of it: what begins with the text is below the term
below_apart : (front rest term : List ℕ) → common term front < length front → slice_cmp nat_cmp front term ≡ Less → slice_cmp nat_cmp (front ++ rest) term ≡ Less
below_apart [] rest term few below = absurd (omega arith)
below_apart (y ∷ ys) rest [] few below = absurd (cc)
below_apart (y ∷ ys) rest (x ∷ xs) few below = at (nat_eq x y) refl (λ few below. below_apart ys rest xs few below) (omega (arith, few))
  where
    at : (b : Bool) → nat_eq x y ≡ b → (common xs ys < length ys → slice_cmp nat_cmp ys xs ≡ Less → slice_cmp nat_cmp (ys ++ rest) xs ≡ Less) → cond b (1 + common xs ys) 0 < 1 + length ys
        → ordering_then (nat_cmp y x) (slice_cmp nat_cmp (ys ++ rest) xs) ≡ Less
    at true same others few = nat_cmp-same x y same (slice_cmp nat_cmp (ys ++ rest) xs) ∙ others (omega arith) (sym (nat_cmp-same x y same (slice_cmp nat_cmp ys xs)) ∙ below)
    at false other others few = nat_cmp-apart x y other (slice_cmp nat_cmp (ys ++ rest) xs) (slice_cmp nat_cmp ys xs) ∙ below

-- and no later term begins with it
pub never_again : (front term later : List ℕ) → is_lt (slice_cmp nat_cmp front term) ≡ true → common term front ≢ length front → IsBelow term later → HasFront front later → ⊥
never_again front term later below apart above has =
    let within = (common_prefix_len-le nat_eq term front).1 in
    let few : common term front < length front = omega arith in
    let before : IsBelow later term = ap (λ (t : List ℕ). slice_cmp nat_cmp t term) has.1 ∙ below_apart front has.0 term few (lt_less (slice_cmp nat_cmp front term) below) in
    not_below_itself term (below_trans term later term above before)

-- a test that fails does not hold
pub not_both : (b : Bool) → IsTrue (not b) → IsTrue b → ⊥
not_both true fails holds = cc
not_both false fails holds = cc
