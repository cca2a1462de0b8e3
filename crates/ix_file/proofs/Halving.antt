-- A text is found among ascending ones by halving what is left of them.
use Rattle.std.proofs.Common.{◌≡◌, ◌≢◌, ℕ, ◌+◌, ◌<◌, ◌≤◌, List, [], length, get_or, slice_get, Some, Ordering, Less, Equal, Greater, All, Contains, refl, sym, ap₂, ◌∙◌, subst, ⊎_elim, arith}
use Rattle.std.proofs.lemmas.Bool.{cases_lt}
use Rattle.std.proofs.lemmas.Cmp.{nat_list_cmp_total, tied_itself}
use Rattle.std.proofs.lemmas.List.Elements.{All-contains}
use Rattle.std.proofs.lemmas.Map.Keys.{Less-from_sorted}
use Rattle.std.proofs.lemmas.Option.{get_or_from_slice_get, slice_get-get_or}
use Rattle.std.specs.Cmp.Lexicographic.{slice_cmp}
use Rattle.std.specs.Ordering.{nat_cmp, ordering_reverse}
use Rattle.ix_text.specs.ByteOrder.{IsAscending}

abbrev pub cmp : List ℕ → List ℕ → Ordering
cmp = slice_cmp nat_cmp

-- what stands before `low` is below the text, and what stands from `high` on is above it
pub record IsBetween (texts : List (List ℕ)) (text : List ℕ) (low high : ℕ) : Type 0 where
  pub order : low ≤ high
  pub within : high ≤ length texts
  pub below : (k : ℕ) → k < low → cmp (get_or texts k []) text ≡ Less
  pub above : (k : ℕ) → high ≤ k → k < length texts → cmp text (get_or texts k []) ≡ Less

pub between-all : (texts : List (List ℕ)) (text : List ℕ) (count : ℕ) → count ≡ length texts → IsBetween texts text 0 count
between-all texts text count is = record {
  order = omega arith;
  within = omega arith;
  below = λ k low. absurd (omega arith);
  above = λ k high low. absurd (omega arith);
}

pub between-higher : (texts : List (List ℕ)) (text : List ℕ) (low high middle : ℕ) → IsAscending texts → IsBetween texts text low high → middle < high → cmp (get_or texts middle []) text ≡ Less → IsBetween texts text (middle + 1) high
between-higher texts text low high middle up b under less = record {
  order = omega arith;
  within = b.within;
  below = λ k h. ⊎_elim (λ (before : k < middle).
      let within = b.within in
      nat_list_cmp_total.trans (get_or texts k []) (get_or texts middle []) text
      (Less-from_sorted cmp texts k middle [] up before (omega (arith))) less)
      (λ (not_before : middle ≤ k). let same : middle ≡ k = omega arith in subst (λ n. cmp (get_or texts n []) text ≡ Less) same less)
      (cases_lt k middle);
  above = b.above;
}

turned : (o : Ordering) → o ≡ Greater → ordering_reverse o ≡ Less
turned Less e = absurd cc
turned Equal e = absurd cc
turned Greater e = refl

pub between-lower : (texts : List (List ℕ)) (text : List ℕ) (low high middle : ℕ) → IsAscending texts → IsBetween texts text low high → low ≤ middle → middle < high → cmp (get_or texts middle []) text ≡ Greater → IsBetween texts text low middle
between-lower texts text low high middle up b over under greater =
    let within = b.within in
    let less : cmp text (get_or texts middle []) ≡ Less =
    nat_list_cmp_total.antisymm text (get_or texts middle []) ∙ turned (cmp (get_or texts middle []) text) greater in
    record {
      order = over;
      within = omega arith;
      below = b.below;
      above = λ k from short. ⊎_elim (λ (behind : middle < k).
          nat_list_cmp_total.trans text (get_or texts middle []) (get_or texts k []) less
          (Less-from_sorted cmp texts middle k [] up behind (omega (arith))))
          (λ (not_behind : k ≤ middle). let same : middle ≡ k = omega arith in subst (λ n. cmp text (get_or texts n []) ≡ Less) same less)
          (cases_lt middle k);
    }

pub apart_by_less : (x y : List ℕ) → cmp x y ≡ Less → x ≢ y
apart_by_less x y less same = let tie = tied_itself nat_list_cmp_total y in let less_itself : cmp y y ≡ Less = subst (λ z. cmp z y ≡ Less) same less in cc (less_itself, tie)

-- where nothing is left, the text is not there
pub no_text : (texts : List (List ℕ)) (text : List ℕ) (low high : ℕ) → IsBetween texts text low high → high ≤ low → Contains texts text → ⊥
no_text texts text low high b none has = All-contains (λ (t : List ℕ). t ≢ text) texts text others has refl
  where
    others : All (λ (t : List ℕ). t ≢ text) texts
    others k d short same =
        let is : get_or texts k [] ≡ text = get_or_from_slice_get texts k (get_or texts k d) [] (slice_get-get_or texts k d short) ∙ same in
        ⊎_elim (λ (before : k < low). apart_by_less (get_or texts k []) text (b.below k before) is)
        (λ (not_before : low ≤ k). apart_by_less text (get_or texts k []) (b.above k (omega arith) short) (sym is))
        (cases_lt k low)

-- what a text that was read there was compared to
pub at_text : (texts : List (List ℕ)) (k : ℕ) (text wanted bytes with : List ℕ) (result o : Ordering) → slice_get texts k ≡ Some text → bytes ≡ text → with ≡ wanted → result ≡ cmp bytes with → result ≡ o → cmp (get_or texts k []) wanted ≡ o
at_text texts k text wanted bytes with result o is read same answer was =
    ap₂ cmp (get_or_from_slice_get texts k text [] is ∙ sym read) (sym same) ∙ sym answer ∙ was
