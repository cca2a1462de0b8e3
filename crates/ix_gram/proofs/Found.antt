-- The matches among the candidates that were passed.
use Rattle.std.proofs.Common.{◌≡◌, ℕ, ◌+◌, ◌<◌, ◌≤◌, ◌⊎◌, inl, inr, List, [], ◌∷◌, ◌++◌, length, take, get_or, Bool, Some, map, sym, ap, ◌∙◌, subst, arith}
use Rattle.std.proofs.lemmas.Bool.{cases_lt}
use Rattle.std.proofs.lemmas.List.Elements.{All-weaker, Contains-push, Contains-append_left, Contains-push_cases, Contains-get_or}
use Rattle.std.proofs.lemmas.List.Kept.{AllPairs-from_increasing}
use Rattle.std.proofs.lemmas.Option.{slice_get_within}
use Rattle.std.proofs.lemmas.List.{length-map, take_more, length-take-le, get_or-take, get_or_default}
use Rattle.std.specs.Prelude.{◌↔◌, All, Contains, IsTrue, slice_get}
use Rattle.std.specs.List.Sorted.{IsStrictlyIncreasing}
use Rattle.ix_gram.specs.Candidates.{AreCandidates, HasNoMatch}
use Rattle.ix_gram.specs.Expanding.{AreMatches, IsMatch}
use Rattle.ix_gram.specs.Fronts.{BeginsWith}
use Rattle.ix_gram.specs.Patterns.{Matches}
use Rattle.ix_gram.proofs.Ascending.{increasing_nil, increasing_push, none_in_nil}
use Rattle.ix_gram.proofs.Splittings.{to_front}

-- the matches among the numbers that were passed, ascending
pub record AreFound (terms pieces : List (List ℕ)) (Passed : ℕ → Type 0) (found : List ℕ) : Type 0 where
  pub ascending : IsStrictlyIncreasing found
  pub exact : (n : ℕ) → Contains found n ↔ (Passed n × IsMatch terms pieces n)

-- one more number was passed, above those before
pub record IsNext (P Q : ℕ → Type 0) (x : ℕ) : Type 0 where
  pub above : (n : ℕ) → P n → n < x
  pub here : Q x
  pub before : (n : ℕ) → P n → Q n
  pub only : (n : ℕ) → Q n → P n ⊎ (x ≡ n)

pub found_none : (terms pieces : List (List ℕ)) (P : ℕ → Type 0) → ((n : ℕ) → ¬ (P n)) → AreFound terms pieces P []
found_none terms pieces P none = record {
  ascending = increasing_nil;
  exact = λ n. (λ has. absurd (none_in_nil n has), λ has. absurd (none n has.0));
}

pub found_yes : (terms pieces : List (List ℕ)) (P Q : ℕ → Type 0) (x : ℕ) (found : List ℕ) → IsNext P Q x → IsMatch terms pieces x → AreFound terms pieces P found → AreFound terms pieces Q (found ++ x ∷ [])
found_yes terms pieces P Q x found next is f = record {
  ascending = increasing_push found x f.ascending (λ n has. next.above n ((f.exact n).0 has).0);
  exact = λ n. (
    λ has. elim (Contains-push_cases found x n has) [
      | inl was ↦ let old = (f.exact n).0 was in (next.before n old.0, old.1)
      | inr same ↦ let R : ℕ → Type 0 = λ m. Q m × IsMatch terms pieces m in subst R same (next.here, is)
    ],
    λ has. elim (next.only n has.0) [
      | inl was ↦ Contains-append_left found (x ∷ []) n ((f.exact n).1 (was, has.1))
      | inr same ↦ let R : ℕ → Type 0 = λ m. Contains (found ++ x ∷ []) m in subst R same (Contains-push found x)
    ],
  );
}

pub found_no : (terms pieces : List (List ℕ)) (P Q : ℕ → Type 0) (x : ℕ) (found : List ℕ) → IsNext P Q x → ¬ (IsMatch terms pieces x) → AreFound terms pieces P found → AreFound terms pieces Q found
found_no terms pieces P Q x found next none f = record {
  ascending = f.ascending;
  exact = λ n. (
    λ has. let old = (f.exact n).0 has in (next.before n old.0, old.1),
    λ has. elim (next.only n has.0) [
      | inl was ↦ (f.exact n).1 (was, has.1)
      | inr same ↦ let R : ℕ → Type 0 = IsMatch terms pieces in absurd (none (subst R (sym same) has.1))
    ],
  );
}

-- where all matches were passed, these are the matches
pub found_all : (terms pieces : List (List ℕ)) (P : ℕ → Type 0) (found : List ℕ) → ((n : ℕ) → IsMatch terms pieces n → P n) → AreFound terms pieces P found → AreMatches terms pieces found
found_all terms pieces P found all f = record {
  ascending = f.ascending;
  exact = λ n. (λ has. ((f.exact n).0 has).1, λ is. (f.exact n).1 (all n is, is));
}

-- whether the term of a number matches decides of the number
pub decided_at : (terms pieces : List (List ℕ)) (number : ℕ) (term : List ℕ) (answer : Bool) → slice_get terms number ≡ Some term → IsTrue answer ↔ Matches term pieces → IsTrue answer ↔ IsMatch terms pieces number
decided_at terms pieces number term answer at told = (
  λ t. record { term = term; numbered = at; matched = told.0 t },
  λ is.
      let same : is.term ≡ term = let other = is.numbered in cc in
      let P : List ℕ → Type 0 = λ t. Matches t pieces in told.1 (subst P same is.matched),
)

-- the numbers of a list one after another
pub next_of_list : (numbers : List ℕ) (i x : ℕ) → IsStrictlyIncreasing numbers → i < length numbers → x ≡ get_or numbers i x → IsNext (Contains (take i numbers)) (Contains (take (i + 1) numbers)) x
next_of_list numbers i x up low at =
    let more : take (i + 1) numbers ≡ take i numbers ++ x ∷ [] = take_more numbers i x low ∙ ap (λ y. take i numbers ++ y ∷ []) (sym at) in
    let P : ℕ → List ℕ → Type 0 = λ n xs. Contains xs n in record {
      above = λ n has. below_at numbers i x up low at n has;
      here = subst (P x) (sym more) (Contains-push (take i numbers) x);
      before = λ n has. subst (P n) (sym more) (Contains-append_left (take i numbers) (x ∷ []) n has);
      only = λ n has. Contains-push_cases (take i numbers) x n (subst (P n) more has);
    }
  where
    below_at : (numbers : List ℕ) (i x : ℕ) → IsStrictlyIncreasing numbers → i < length numbers → x ≡ get_or numbers i x → (n : ℕ) → Contains (take i numbers) n → n < x
    below_at numbers i x up low at n (k, within, is) =
        let size : length (take i numbers) ≡ i = length-take-le i numbers (omega arith) in
        let same : get_or numbers k n ≡ n = sym (get_or-take i numbers k n (omega arith)) ∙ is in
        let less : get_or numbers k n < get_or numbers i n = AllPairs-from_increasing numbers up k i n (omega arith) low in
        let there : get_or numbers i n ≡ x = get_or_default numbers i n x low ∙ sym at in
        omega (arith, less, same, there)

-- the numbers of a range
pub next_of_range : (start x : ℕ) → start ≤ x → IsNext (λ n. (start ≤ n) × (n < x)) (λ n. (start ≤ n) × (n < x + 1)) x
next_of_range start x from = record {
  above = λ n h. h.1;
  here = (from, omega arith);
  before = λ n h. (h.0, omega (arith, h.1));
  only = λ n h. elim (cases_lt n x) [ inl less ↦ inl (h.0, less) | inr more ↦ inr (omega (arith, h.1)) ];
}

-- a match has a term
pub match_within : (terms pieces : List (List ℕ)) (numbers : List ℕ) → AreMatches terms pieces numbers → All (λ n. n < length terms) numbers
match_within terms pieces numbers are k d low =
    let n : ℕ = get_or numbers k d in
    let is = (are.exact n).0 (Contains-get_or numbers k d low) in
    slice_get_within terms n is.term is.numbered

pub no_matches : (terms pieces : List (List ℕ)) → HasNoMatch terms pieces → AreMatches terms pieces []
no_matches terms pieces none = record {
  ascending = increasing_nil;
  exact = λ n. (λ has. absurd (none_in_nil n has), λ is. absurd (none n is));
}

-- the term of a match begins with the first piece
pub match_begins : (terms pieces : List (List ℕ)) (first : List ℕ) (more : List (List ℕ)) (number : ℕ) → pieces ≡ first ∷ more → (is : IsMatch terms pieces number) → BeginsWith is.term first
match_begins terms pieces first more number same is =
    let P : List (List ℕ) → Type 0 = λ ps. Matches is.term ps in
    let (rest, at, follows) = to_front is.term first more (subst P same is.matched) in (rest, at)

-- the matches of a dictionary are below the number of its entries
pub match_low : {X : Type 0} (f : X → List ℕ) (entries : List X) (pieces : List (List ℕ)) (numbers : List ℕ) → AreMatches (map f entries) pieces numbers → All (λ n. n < length entries) numbers
match_low f entries pieces numbers are k d low =
    let within : get_or numbers k d < length (map f entries) = match_within (map f entries) pieces numbers are k d low in
    omega (arith, within, length-map entries f)

pub ascending_lists : (terms pieces lists : List (List ℕ)) → All (AreCandidates terms pieces) lists → All IsStrictlyIncreasing lists
ascending_lists terms pieces lists all = All-weaker (AreCandidates terms pieces) IsStrictlyIncreasing (λ list are. are.ascending) lists all
