-- A sum over a list, against one of its parts and against two.
use Rattle.std.proofs.Common.{◌≡◌, ◌≢◌, ℕ, zero, suc, ◌+◌, ◌≤◌, ltb, true, false, List, [], ◌∷◌, refl, sym, ap, ◌∙◌, arith}
use Rattle.std.specs.Prelude.{Some, slice_get, sum_by}
use Rattle.std.proofs.lemmas.Option.{none-some, same_Some}
use Rattle.std.proofs.lemmas.Bool.Decides.{nat_tests}
use Rattle.std.proofs.lemmas.List.Sums.{sum_by-cons}
use Rattle.ix_pool.specs.declared.maker.Asked.{Asked}
use Rattle.ix_pool.specs.Askings.{asks, times_asked}
use Rattle.ix_pool.specs.ShareLaws.{EachOfOneMaker, NoneFromTheCountOn}
use Rattle.ix_pool.specs.Shares.{all_of}
use Rattle.ix_pool.proofs.Sums.{count_flat, sum_some}

module _ {A : Type 0} (f : A → ℕ) where
  one_part : (xs : List A) (i : ℕ) (x : A) → slice_get xs i ≡ Some x → f x ≤ sum_by f xs
  one_part [] i x at = absurd (none-some x at)
  one_part (y ∷ xs) zero x at = let e : f y ≡ f x = ap f (same_Some y x at) in omega (arith, sum_by-cons f y xs)
  one_part (y ∷ xs) (suc i) x at = omega (arith, sum_by-cons f y xs, one_part xs i x at)

  two_parts : (xs : List A) (i j : ℕ) (x y : A) → i ≢ j → slice_get xs i ≡ Some x → slice_get xs j ≡ Some y → f x + f y ≤ sum_by f xs
  two_parts [] i j x y n at other = absurd (none-some x at)
  two_parts (z ∷ xs) zero zero x y n at other = absurd (n refl)
  two_parts (z ∷ xs) zero (suc j) x y n at other = let e : f z ≡ f x = ap f (same_Some z x at) in omega (arith, sum_by-cons f z xs, one_part xs j y other)
  two_parts (z ∷ xs) (suc i) zero x y n at other = let e : f z ≡ f y = ap f (same_Some z y other) in omega (arith, sum_by-cons f z xs, one_part xs i x at)
  two_parts (z ∷ xs) (suc i) (suc j) x y n at other = omega (arith, sum_by-cons f z xs, two_parts xs i j x y (λ e. n (ap suc e)) at other)

shared : (place : ℕ) (shares : List (List Asked)) → times_asked place (all_of shares) ≡ sum_by (times_asked place) shares
shared place shares = count_flat (asks place) (λ (share : List Asked). share) shares

pub each_of_one_maker : EachOfOneMaker
each_of_one_maker count shares place each h =
    let below : ltb place count ≡ true = grind (arith, nat_tests) in
    let one : sum_by (times_asked place) shares ≡ 1 = sym (shared place shares) ∙ (each place ∙ rw below refl) in
    let t = sum_some (times_asked place) shares (omega arith) in
    record {
      w = t.0;
      share = t.1;
      numbered = t.2;
      once = omega (arith, t.3, one_part (times_asked place) shares t.0 t.1 t.2);
      no_other = λ v other n at. omega (arith, t.3, two_parts (times_asked place) shares v t.0 other t.1 n at t.2);
    }

pub none_from_the_count_on : NoneFromTheCountOn
none_from_the_count_on count shares place w share each h at =
    let past : ltb place count ≡ false = grind (arith, nat_tests) in
    let none : sum_by (times_asked place) shares ≡ 0 = sym (shared place shares) ∙ (each place ∙ rw past refl) in
    omega (arith, one_part (times_asked place) shares w share at)
