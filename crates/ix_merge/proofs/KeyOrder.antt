-- The order of keys: of any two one comes first, and what comes first of one that comes first does.
use Rattle.std.proofs.Common.{◌≡◌, ℕ, List, Option, Some, None, Bool, true, false, MatchBool, leb, Ordering, Less, Equal, Greater, inl, inr, refl, sym, ◌∙◌, subst, arith}
use Rattle.std.proofs.lemmas.Bool.Decides.{nat_tests}
use Rattle.std.proofs.lemmas.Cmp.{nat_list_cmp_total}
use Rattle.std.specs.Cmp.Lexicographic.{slice_cmp}
use Rattle.std.specs.Option.{option_map}
use Rattle.std.specs.Ordering.{nat_cmp, ordering_reverse}
use Rattle.ix_text.proofs.StopSetLemmas.{same_from_Equal}
use Rattle.ix_run.specs.Heads.{Heading}
use Rattle.ix_merge.specs.Keys.{Key, key_of, end_of, IsUpTo, ComesFirst}

abbrev Below : List ℕ → List ℕ → Type 0
Below one other = slice_cmp nat_cmp one other ≡ Less

turned : (o : Ordering) → o ≡ Greater → ordering_reverse o ≡ Less
turned Greater e = refl
turned Less e = absurd cc
turned Equal e = absurd cc

pub below_turned : (one other : List ℕ) → slice_cmp nat_cmp one other ≡ Greater → Below other one
below_turned one other greater = nat_list_cmp_total.antisymm other one ∙ turned (slice_cmp nat_cmp one other) greater

pub up_to_itself : (key : Key) → IsUpTo key key
up_to_itself key = inr (refl, omega arith)

pub up_to_further : (one other third : Key) → IsUpTo one other → IsUpTo other third → IsUpTo one third
up_to_further one other third (inl less) (inl more) = inl (nat_list_cmp_total.trans one.term other.term third.term less more)
up_to_further one other third (inl less) (inr more) = inl (subst (Below one.term) more.0 less)
up_to_further one other third (inr less) (inl more) = inl (let P : List ℕ → Type 0 = λ term. Below term third.term in subst P (sym less.0) more)
up_to_further one other third (inr less) (inr more) = inr (less.0 ∙ more.0, let a = less.1 in let b = more.1 in omega arith)

pub first_itself : (key : Option Key) → ComesFirst key key
first_itself None = tt
first_itself (Some key) = up_to_itself key

pub first_further : (one other third : Option Key) → ComesFirst one other → ComesFirst other third → ComesFirst one third
first_further one other None first more = tt
first_further None None (Some third) first more = absurd more
first_further (Some one) None (Some third) first more = absurd more
first_further None (Some other) (Some third) first more = absurd first
first_further (Some one) (Some other) (Some third) first more = up_to_further one other third first more

-- what two sources' current terms say of their keys
module _ {S : Type 0} (heading : S → Heading) (current : S → Option (List ℕ)) (one other : S) (term term' : List ℕ) (at : current one ≡ Some term) (at' : current other ≡ Some term') where
  abbrev key : Option Key
  key = key_of heading current one

  abbrev key' : Option Key
  key' = key_of heading current other

  keyed : (P : Option Key → Option Key → Type 0) → P (Some (record { term = term; end = end_of (heading one) })) (Some (record { term = term'; end = end_of (heading other) })) → P key key'
  keyed P is =
      let f : List ℕ → Key = λ t. record { term = t; end = end_of (heading one) } in
      let g : List ℕ → Key = λ t. record { term = t; end = end_of (heading other) } in
      let Q : Option (List ℕ) → Type 0 = λ o. P (option_map f o) (option_map g (Some term')) in
      let R : Option (List ℕ) → Type 0 = λ o. P (option_map f (current one)) (option_map g o) in
      subst R (sym at') (subst Q (sym at) is)

  pub first_if_above : slice_cmp nat_cmp term term' ≡ Greater → ComesFirst key' key
  first_if_above more = keyed (λ x y. ComesFirst y x) (inl (below_turned term term' more))

  pub first_if_same : slice_cmp nat_cmp term term' ≡ Equal → MatchBool (leb (end_of (heading one)) (end_of (heading other))) (ComesFirst key key') (ComesFirst key' key)
  first_if_same same = decided (leb (end_of (heading one)) (end_of (heading other))) refl
    where
      decided : (b : Bool) → leb (end_of (heading one)) (end_of (heading other)) ≡ b → MatchBool b (ComesFirst key key') (ComesFirst key' key)
      decided true is = keyed ComesFirst (inr (same_from_Equal term term' same, grind (arith, nat_tests)))
      decided false is = keyed (λ x y. ComesFirst y x) (inr (sym (same_from_Equal term term' same), grind (arith, nat_tests)))
