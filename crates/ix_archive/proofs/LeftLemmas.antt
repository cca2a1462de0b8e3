-- Which numbers of documents are left if some are removed.
use Rattle.std.proofs.Common.{◌≡◌, ℕ, ◌+◌, ◌-◌, ◌^◌, ◌<◌, ◌≤◌, ◌⊎◌, inl, inr, Bool, true, false, List, [], ◌∷◌, ◌++◌, Some, take, length, get_or, refl, sym, ap, ◌∙◌, subst, arith}
use Rattle.std.specs.Prelude.{◌↔◌, All, Contains, IsTrue, MatchBool, min, slice_get}
use Rattle.std.specs.List.Sorted.{IsStrictlyIncreasing}
use Rattle.std.proofs.lemmas.List.{get_or_default, get_or-take, length-take, take_all, take_more}
use Rattle.std.proofs.lemmas.List.Elements.{All-contains, All-push, Contains-append_left, Contains-append_right, Contains-push_cases}
use Rattle.std.proofs.lemmas.List.Kept.{AllPairs-from_increasing}
use Rattle.std.proofs.lemmas.Option.{same_Some}
use Rattle.ix_scan.proofs.Members.{increasing_joined, none_in_nil}
use Rattle.ix_removals.specs.RemovalsText.{AreRemovals, IsRemoval, IsRemoved, Removal}
use Rattle.ix_archive.specs.Findings.{AreLeft, IsGoneFrom}

-- ---- one document

fits : (removals : List Removal) (removal : Removal) → AreRemovals removals → Contains removals removal → removal.below < 2 ^ 64
fits removals removal are among = (All-contains IsRemoval removals removal are.each among).fits

-- a number that has no 64 bits is not below any bound, and neither is the largest that has
pub removed_alike : (removals : List Removal) (name : List ℕ) (a b : ℕ) → AreRemovals removals → min a (2 ^ 64 - 1) ≡ min b (2 ^ 64 - 1) → IsRemoved removals name a → IsRemoved removals name b
removed_alike removals name a b are same is = record {
  removal = is.removal;
  among = is.among;
  named = is.named;
  earlier = let bound = fits removals is.removal are is.among in let earlier = is.earlier in omega arith;
}

pub none_gone : (removals : List Removal) (first : ℕ) (names : List (List ℕ)) (number : ℕ) → length removals ≡ 0 → ¬ (IsGoneFrom removals first names number)
none_gone removals first names number none gone =
    let (k, within, is) = gone.removed.among in absurd (omega arith)

pub gone_told : (removals : List Removal) (first : ℕ) (names : List (List ℕ)) (number place : ℕ) (name : List ℕ) (told : Bool) → AreRemovals removals → slice_get names number ≡ Some name
    → place ≡ min (first + number) (2 ^ 64 - 1) → IsTrue told ↔ IsRemoved removals name place
    → MatchBool told (IsGoneFrom removals first names number) (¬ (IsGoneFrom removals first names number))
gone_told removals first names number place name true are at is tells = record {
  name = name;
  numbered = at;
  removed = removed_alike removals name place (first + number) are (omega arith) (tells.0 refl);
}
gone_told removals first names number place name false are at is tells = λ gone.
    let same : gone.name ≡ name = same_Some gone.name name (sym gone.numbered ∙ at) in
    let removed : IsRemoved removals name (first + number) = subst (λ (n : List ℕ). IsRemoved removals n (first + number)) same gone.removed in
    absurd (let no = tells.1 (removed_alike removals name (first + number) place are (omega arith) removed) in cc)

-- ---- one after another

-- the first i of these numbers were looked at, and these are left
pub record LeftSoFar (gone : ℕ → Type 0) (bound : ℕ) (numbers : List ℕ) (i : ℕ) (left : List ℕ) : Type 0 where
  pub are_left : IsStrictlyIncreasing numbers → AreLeft gone (take i numbers) left
  pub below : All (λ number. number < bound) left

earlier_below : (numbers : List ℕ) (i n : ℕ) → IsStrictlyIncreasing numbers → i < length numbers → Contains (take i numbers) n → n < get_or numbers i 0
earlier_below numbers i n up within (k, inside, is) =
    let size = length-take i numbers in
    let below : k < i = omega arith in
    let same : get_or numbers k n ≡ n = sym (get_or-take i numbers k n below) ∙ is in
    let less : get_or numbers k n < get_or numbers i n = AllPairs-from_increasing numbers up k i n below within in
    let e = get_or_default numbers i n 0 within in
    omega arith

pub left_none : (gone : ℕ → Type 0) (bound : ℕ) (numbers : List ℕ) → LeftSoFar gone bound numbers 0 []
left_none gone bound numbers = record {
  are_left = λ up. record {
    ascending = λ i within. absurd (omega arith);
    exact = λ n. (λ among. absurd (none_in_nil n among), λ (among, stays). absurd (none_in_nil n among));
  };
  below = λ k d within. absurd (omega arith);
}

module _ (gone : ℕ → Type 0) (bound : ℕ) (numbers : List ℕ) (i : ℕ) (left : List ℕ) (within : i < length numbers) (so_far : LeftSoFar gone bound numbers i left) where
  abbrev now : ℕ
  now = get_or numbers i 0

  more : take (i + 1) numbers ≡ take i numbers ++ now ∷ []
  more = take_more numbers i 0 within

  earlier_still : (n : ℕ) → Contains (take i numbers) n → Contains (take (i + 1) numbers) n
  earlier_still n among = subst (λ (l : List ℕ). Contains l n) (sym more) (Contains-append_left (take i numbers) (now ∷ []) n among)

  cases : (n : ℕ) → Contains (take (i + 1) numbers) n → Contains (take i numbers) n ⊎ (now ≡ n)
  cases n among = Contains-push_cases (take i numbers) now n (subst (λ (l : List ℕ). Contains l n) more among)

  pub left_gone : gone now → LeftSoFar gone bound numbers (i + 1) left
  left_gone is_gone = record {
    are_left = λ up. let are = so_far.are_left up in record {
      ascending = are.ascending;
      exact = λ n. (
        λ among. let r = (are.exact n).0 among in (earlier_still n r.0, r.1),
        λ (among, stays). elim (cases n among) [
          | inl earlier ↦ (are.exact n).1 (earlier, stays)
          | inr same ↦ absurd (stays (subst gone same is_gone))
        ],
      );
    };
    below = so_far.below;
  }

  pub left_kept : ¬ (gone now) → now < bound → LeftSoFar gone bound numbers (i + 1) (left ++ now ∷ [])
  left_kept stays low = record {
    are_left = λ up. let are = so_far.are_left up in record {
      ascending = increasing_joined left (now ∷ []) now are.ascending (λ k inside. absurd (omega arith)) (λ n among. earlier_below numbers i n up within ((are.exact n).0 among).0)
          (λ n among. let same = only_one now n among in omega arith);
      exact = λ n. (
        λ among. elim (Contains-push_cases left now n among) [
          | inl earlier ↦ let r = (are.exact n).0 earlier in (earlier_still n r.0, r.1)
          | inr same ↦ (subst (λ (m : ℕ). Contains (take (i + 1) numbers) m) same last, subst (λ (m : ℕ). ¬ (gone m)) same stays)
        ],
        λ (among, is_left). elim (cases n among) [
          | inl earlier ↦ Contains-append_left left (now ∷ []) n ((are.exact n).1 (earlier, is_left))
          | inr same ↦ Contains-append_right left (now ∷ []) n (subst (λ (m : ℕ). Contains (now ∷ []) m) same (0, omega arith, refl))
        ],
      );
    };
    below = All-push (λ number. number < bound) left now so_far.below low;
  }
    where
      last : Contains (take (i + 1) numbers) now
      last = subst (λ (l : List ℕ). Contains l now) (sym more) (Contains-append_right (take i numbers) (now ∷ []) now (0, omega arith, refl))

      only_one : (x n : ℕ) → Contains (x ∷ []) n → x ≡ n
      only_one x n (k, inside, is) = let zero_k : k ≡ 0 = omega arith in sym (ap (λ (j : ℕ). get_or (x ∷ []) j n) zero_k) ∙ is

pub all_left : (gone : ℕ → Type 0) (bound : ℕ) (numbers : List ℕ) (i : ℕ) (left : List ℕ) → length numbers ≤ i → LeftSoFar gone bound numbers i left → IsStrictlyIncreasing numbers → AreLeft gone numbers left
all_left gone bound numbers i left all so_far up = subst (λ (l : List ℕ). AreLeft gone l left) (take_all i numbers all) (so_far.are_left up)
