-- Streams that are asked in turn for what is not below a number.
use Rattle.std.proofs.Common.{◌≡◌, ◌≢◌, ℕ, zero, suc, ◌+◌, ◌<◌, ◌≤◌, ◌↔◌, inl, inr, List, [], ◌∷◌, Option, None, Some, length, refl, sym, ap, ◌∙◌, subst, arith, set, slice_get}
use Rattle.std.proofs.lemmas.Bool.{cases_lt, cases_eq}
use Rattle.std.proofs.lemmas.List.{length-set}
use Rattle.std.proofs.lemmas.Option.{slice_get_within}
use Rattle.std.specs.Prelude.{MatchOption}
use Rattle.ix_text.proofs.PartsLemmas.{at_same_place}
use Rattle.ix_query.specs.Streams.{Pairs, Have, IsFirst, Reaches, HaveAll, HaveBoth, HasOne, IsPassed, IsSameFrom, ArePassed, AreSameFrom, IsPass, IsPassEnded, IsCommon}

-- ---- a list of which one element was replaced

pub get_set_same : {X : Type 0} (xs : List X) (i : ℕ) (x : X) → i < length xs → slice_get (set xs i x) i ≡ Some x
get_set_same [] i x within = absurd (omega arith)
get_set_same (y ∷ ys) zero x within = refl
get_set_same (y ∷ ys) (suc i) x within = get_set_same ys i x (omega arith)

pub get_set_other : {X : Type 0} (xs : List X) (i k : ℕ) (x : X) → k ≢ i → slice_get (set xs i x) k ≡ slice_get xs k
get_set_other [] i k x apart = refl
get_set_other (y ∷ ys) zero zero x apart = absurd (apart refl)
get_set_other (y ∷ ys) zero (suc k) x apart = refl
get_set_other (y ∷ ys) (suc i) zero x apart = refl
get_set_other (y ∷ ys) (suc i) (suc k) x apart = get_set_other ys i k x (λ e. apart (ap suc e))

some_same : {X : Type 0} {x y : X} → Some x ≡ Some y → x ≡ y
some_same e = cc

-- an answer is not below what was asked
pub reached_low : (old new : Pairs) (low number : ℕ) → Reaches old new low (Some number) → low ≤ number
reached_low old new low number reached = let (place, now) = reached.found.holds in ((reached.kept number place).0 now).1

module _ {N : Type 0} (has : N → Pairs) where
  -- the streams before a place stand at the number, and the others were not asked
  pub record PassedBefore (olds news : List N) (number i : ℕ) : Type 0 where
    pub met : (k : ℕ) (old new : N) → k < i → slice_get olds k ≡ Some old → slice_get news k ≡ Some new → IsPassed (has old) (has new) number × Have (has new) number
    pub left : (k : ℕ) → i ≤ k → slice_get news k ≡ slice_get olds k
    pub long : length news ≡ length olds

  pub passed_none : (olds : List N) (number : ℕ) → PassedBefore olds olds number 0
  passed_none olds number = record { met = λ k old new below. absurd (omega arith); left = λ k above. refl; long = refl }

  -- the one at the place was asked, and answered the number
  pub passed_more : (olds news : List N) (number i : ℕ) (list new : N) (found : Option ℕ) → PassedBefore olds news number i → i < length news → slice_get news i ≡ Some list → Reaches (has list) (has new) number found → found ≡ Some number → PassedBefore olds (set news i new) number (i + 1)
  passed_more olds news number i list new found before within at reached is = record {
    met = λ k old other below was now. elim (cases_lt k i) [
      | inl less ↦ before.met k old other less was (sym (get_set_other news i k new (omega arith)) ∙ now)
      | inr more ↦
          let here : k ≡ i = omega arith in
          let new_is : other ≡ new = some_same (sym now ∙ ap (slice_get (set news i new)) here ∙ get_set_same news i new within) in
          let old_is : old ≡ list = some_same (sym was ∙ ap (slice_get olds) here ∙ sym (before.left i (omega arith)) ∙ at) in
          let first = subst (λ (o : Option ℕ). MatchOption o ((n place : ℕ) → ¬ (has new n place)) (IsFirst (has new))) is reached.found in
          subst (λ (o : N). IsPassed (has old) (has o) number × Have (has o) number) (sym new_is)
          (subst (λ (o : N). IsPassed (has o) (has new) number) (sym old_is) reached.kept, first.holds)
    ];
    left = λ k above. get_set_other news i k new (omega arith) ∙ before.left k (omega arith);
    long = length-set news i new ∙ before.long;
  }

  pub passed_all : (olds news : List N) (number i : ℕ) → length olds ≤ i → PassedBefore olds news number i → HaveAll has news number × ArePassed has olds news number
  passed_all olds news number i all before = (
    λ k list at. let (old, was) = at_same_place news olds k list before.long at in (before.met k old list (let within = slice_get_within olds k old was in omega arith) was at).1,
    λ k old new was now. (before.met k old new (let within = slice_get_within olds k old was in omega arith) was now).0,
  )

  -- from a number on a stream that was asked for a lower one is as it was
  pub same_above : (old new : Pairs) (number high : ℕ) → IsPassed old new number → number ≤ high → IsSameFrom old new high
  same_above old new number high passed above n place = (λ now. ((passed n place).0 now).0, λ was far. (passed n place).1 (was, omega arith))

  -- the one at the place was asked, and answered a higher number
  pub passed_stops : (olds news : List N) (number i : ℕ) (list new : N) (answer : Option ℕ) (found : ℕ) → PassedBefore olds news number i → i < length news → slice_get news i ≡ Some list → Reaches (has list) (has new) number answer → answer ≡ Some found → number < found → IsPass has olds (set news i new) number found
  passed_stops olds news number i list new answer found before within at reached is higher =
      let first = subst (λ (o : Option ℕ). MatchOption o ((n place : ℕ) → ¬ (has new n place)) (IsFirst (has new))) is reached.found in record {
        above = omega arith;
        kept = λ k old other was now. elim (cases_lt k i) [
          | inl less ↦ same_above (has old) (has other) number found (before.met k old other less was (sym (get_set_other news i k new (omega arith)) ∙ now)).0 (omega arith)
          | inr more ↦ elim (cases_eq k i) [
            | inl here ↦
                let new_is : other ≡ new = some_same (sym now ∙ ap (slice_get (set news i new)) here ∙ get_set_same news i new within) in
                let old_is : old ≡ list = some_same (sym was ∙ ap (slice_get olds) here ∙ sym (before.left i (omega arith)) ∙ at) in
                subst (λ (o : N). IsSameFrom (has old) (has o) found) (sym new_is)
                (subst (λ (o : N). IsSameFrom (has o) (has new) found) (sym old_is) (same_above (has list) (has new) number found reached.kept (omega arith)))
            | inr apart ↦
                let same : old ≡ other = some_same (sym was ∙ sym (before.left k (omega arith)) ∙ sym (get_set_other news i k new apart) ∙ now) in
                subst (λ (o : N). IsSameFrom (has old) (has o) found) same (λ n place. (λ now. now, λ was far. was))
          ]
        ];
        next = λ n all above.
            let (place, was) = all i list (sym (before.left i (omega arith)) ∙ at) in
            first.first n place ((reached.kept n place).1 (was, above));
        met = λ same. absurd (omega arith);
      }

  -- the one at the place had nothing left
  pub passed_ends : (olds news : List N) (number i : ℕ) (list new : N) (answer : Option ℕ) → PassedBefore olds news number i → i < length news → slice_get news i ≡ Some list → Reaches (has list) (has new) number answer → answer ≡ None → IsPassEnded has olds (set news i new) number
  passed_ends olds news number i list new answer before within at reached is =
      let none = subst (λ (o : Option ℕ). MatchOption o ((n place : ℕ) → ¬ (has new n place)) (IsFirst (has new))) is reached.found in record {
        before = λ n all above.
            let (place, was) = all i list (sym (before.left i (omega arith)) ∙ at) in
            none n place ((reached.kept n place).1 (was, above));
        after = λ n all.
            let (place, now) = all i new (get_set_same news i new within) in none n place now;
      }

  pub pass_met : (olds news : List N) (number i : ℕ) → length olds ≤ i → PassedBefore olds news number i → IsPass has olds news number number
  pass_met olds news number i all before =
      let met = passed_all olds news number i all before in record {
        above = omega arith;
        kept = λ k old new was now. same_above (has old) (has new) number number (met.1 k old new was now) (omega arith);
        next = λ n has above. above;
        met = λ same. met;
      }

  -- ---- one of the streams has the number

  -- none of those before a place has it, and the others were not asked
  pub record LackedBefore (olds news : List N) (number i : ℕ) : Type 0 where
    pub lacked : (k : ℕ) (old : N) → k < i → slice_get olds k ≡ Some old → ¬ (Have (has old) number)
    pub kept : (k : ℕ) (old new : N) → k < i → slice_get olds k ≡ Some old → slice_get news k ≡ Some new → IsSameFrom (has old) (has new) number
    pub left : (k : ℕ) → i ≤ k → slice_get news k ≡ slice_get olds k

  -- the streams as they are when one more was asked
  pub same_more : (olds news : List N) (number i : ℕ) (list new : N) (answer : Option ℕ) → LackedBefore olds news number i → i < length news → slice_get news i ≡ Some list → Reaches (has list) (has new) number answer
      → (k : ℕ) (old other : N) → k < i + 1 → slice_get olds k ≡ Some old → slice_get (set news i new) k ≡ Some other → IsSameFrom (has old) (has other) number
  same_more olds news number i list new answer before within at reached k old other below was now = elim (cases_lt k i) [
    | inl less ↦ before.kept k old other less was (sym (get_set_other news i k new (omega arith)) ∙ now)
    | inr more ↦
        let here : k ≡ i = omega arith in
        let new_is : other ≡ new = some_same (sym now ∙ ap (slice_get (set news i new)) here ∙ get_set_same news i new within) in
        let old_is : old ≡ list = some_same (sym was ∙ ap (slice_get olds) here ∙ sym (before.left i (omega arith)) ∙ at) in
        subst (λ (o : N). IsSameFrom (has old) (has o) number) (sym new_is)
        (subst (λ (o : N). IsSameFrom (has o) (has new) number) (sym old_is) (same_above (has list) (has new) number number reached.kept (omega arith)))
  ]

  -- ---- numbers in common

  -- the streams were narrowed down: from `least` on they are as they were, and no number that they have in common is lower
  pub record Narrowed (first_old first : N) (olds lists : List N) (low least : ℕ) : Type 0 where
    pub above : low ≤ least
    pub first_same : IsSameFrom (has first_old) (has first) least
    pub others_same : AreSameFrom has olds lists least
    pub next : (n : ℕ) → HaveBoth has first_old olds n → low ≤ n → least ≤ n
    pub long : length lists ≡ length olds

  -- what the whole had, the narrowed streams have
  still : (first_old first : N) (olds lists : List N) (low least n : ℕ) → Narrowed first_old first olds lists low least → HaveBoth has first_old olds n → least ≤ n → HaveBoth has first lists n
  still first_old first olds lists low least n narrowed (one, all) far = (
    (one.0, (narrowed.first_same n one.0).1 one.1 far),
    λ k list now.
        let (old, was) = at_same_place lists olds k list narrowed.long now in
        let (place, had) = all k old was in (place, (narrowed.others_same k old list was now n place).1 had far),
  )

  -- and what these have, the whole had
  before_all : (olds lists : List N) (least n : ℕ) → length lists ≡ length olds → AreSameFrom has olds lists least → HaveAll has lists n → HaveAll has olds n
  before_all olds lists least n long same all k old was =
      let (list, now) = at_same_place olds lists k old (sym long) was in
      let (place, had) = all k list now in (place, (same k old list was now n place).0 had)

  along_same : (olds lists news : List N) (least high : ℕ) → length lists ≡ length olds → AreSameFrom has olds lists least → AreSameFrom has lists news high → least ≤ high → AreSameFrom has olds news high
  along_same olds lists news least high long one two above k old new was now n place =
      let (list, at) = at_same_place olds lists k old (sym long) was in
      let a = one k old list was at n place in
      let b = two k list new at now n place in (λ has. a.0 (b.0 has), λ has far. b.1 (a.1 has (omega arith)) far)

  pub narrowed_more : (first_old first first_new : N) (olds lists news : List N) (low least number high : ℕ) → Narrowed first_old first olds lists low least → Reaches (has first) (has first_new) least (Some number) → IsPass has lists news number high → length news ≡ length lists → Narrowed first_old first_new olds news low high
  narrowed_more first_old first first_new olds lists news low least number high narrowed reached pass long =
      let up = reached_low (has first) (has first_new) least number reached in
      let higher = pass.above in record {
        above = let a = narrowed.above in omega arith;
        first_same = λ n place. (
          λ now. (narrowed.first_same n place).0 ((reached.kept n place).0 now).0,
          λ was far. (reached.kept n place).1 ((narrowed.first_same n place).1 was (omega arith), omega arith),
        );
        others_same = along_same olds lists news least high narrowed.long narrowed.others_same pass.kept (omega arith);
        next = λ n whole above.
            let far = narrowed.next n whole above in
            let both = still first_old first olds lists low least n narrowed whole far in
            let (place, had) = both.0 in
            pass.next n both.1 (reached.found.first n place ((reached.kept n place).1 (had, far)));
        long = long ∙ narrowed.long;
      }

  -- what the streams have in common
  abbrev Both : N → List N → Pairs
  Both first others = λ n place. HaveBoth has first others n

  pub common_met : (first_old first first_new : N) (olds lists news : List N) (low least number : ℕ) → Narrowed first_old first olds lists low least → Reaches (has first) (has first_new) least (Some number) → IsPass has lists news number number → length news ≡ length lists
      → Reaches (Both first_old olds) (Both first_new news) low (Some number) × IsCommon has first_old first_new olds news number
  common_met first_old first first_new olds lists news low least number narrowed reached pass long = (
    record {
      kept = λ n place. (
        λ now.
            let narrow = narrowed_more first_old first first_new olds lists news low least number number narrowed reached pass long in
            let (p, one) = now.0 in (
              ((p, (narrow.first_same n p).0 one), before_all olds news number n narrow.long narrow.others_same now.1),
              let a = narrowed.above in let b = ((reached.kept n p).0 one).1 in omega arith,
            ),
        λ (whole, above).
            let far = narrowed.next n whole above in
            let both = still first_old first olds lists low least n narrowed whole far in
            let (p, had) = both.0 in
            let now = (reached.kept n p).1 (had, far) in
            let high = reached.found.first n p now in (
              (p, now),
              λ k list at.
                  let (old, was) = at_same_place news lists k list long at in
                  let (q, has) = both.1 k old was in (q, (met.1 k old list was at n q).1 (has, high)),
            ),
      );
      found = record {
        holds = (0, (reached.found.holds, met.0));
        first = λ n place now. let (p, one) = now.0 in reached.found.first n p one;
        below = reached.found.below;
      };
    },
    record {
      first = λ n place. (
        λ now. ((narrowed.first_same n place).0 ((reached.kept n place).0 now).0, reached.found.first n place now),
        λ h. (reached.kept n place).1 ((narrowed.first_same n place).1 h.0 (let a = h.1 in let u = up in omega arith), let a = h.1 in let u = up in omega arith),
      );
      others = λ k old new was now n place.
          let (list, at) = at_same_place olds lists k old (sym narrowed.long) was in
          let a = narrowed.others_same k old list was at n place in
          let b = met.1 k list new at now n place in (
            λ has. (a.0 (b.0 has).0, (b.0 has).1),
            λ h. b.1 (a.1 h.0 (let far = h.1 in let u = up in omega arith), h.1),
          );
    },
  )
    where
      met : HaveAll has news number × ArePassed has lists news number
      met = pass.met refl

      up : least ≤ number
      up = reached_low (has first) (has first_new) least number reached

  pub common_ended : (first_old first first_new : N) (olds lists : List N) (low least : ℕ) → Narrowed first_old first olds lists low least → Reaches (has first) (has first_new) least None → Reaches (Both first_old olds) (Both first_new lists) low None
  common_ended first_old first first_new olds lists low least narrowed reached = record {
    kept = λ n place. (
      λ now. let (p, one) = now.0 in absurd (reached.found n p one),
      λ (whole, above).
          let far = narrowed.next n whole above in
          let both = still first_old first olds lists low least n narrowed whole far in
          let (p, had) = both.0 in absurd (reached.found n p ((reached.kept n p).1 (had, far))),
    );
    found = λ n place now. let (p, one) = now.0 in reached.found n p one;
  }

  pub others_ended : (first_old first first_new : N) (olds lists news : List N) (low least number : ℕ) → Narrowed first_old first olds lists low least → Reaches (has first) (has first_new) least (Some number) → IsPassEnded has lists news number → Reaches (Both first_old olds) (Both first_new news) low None
  others_ended first_old first first_new olds lists news low least number narrowed reached ended = record {
    kept = λ n place. (
      λ now. absurd (ended.after n now.1),
      λ (whole, above).
          let far = narrowed.next n whole above in
          let both = still first_old first olds lists low least n narrowed whole far in
          let (p, had) = both.0 in
          absurd (ended.before n both.1 (reached.found.first n p ((reached.kept n p).1 (had, far)))),
    );
    found = λ n place now. ended.after n now.1;
  }

  -- ---- two streams

  -- what one other stream answers, as a pass over a list of it alone
  pub pass_of_one : (list new : N) (number high : ℕ) → Reaches (has list) (has new) number (Some high) → IsPass has (list ∷ []) (new ∷ []) number high
  pass_of_one list new number high reached = elim (cases_lt number high) [
    | inl higher ↦ passed_stops (list ∷ []) (list ∷ []) number 0 list new (Some high) high (passed_none (list ∷ []) number) (omega arith) refl reached refl higher
    | inr low ↦
        let up = reached_low (has list) (has new) number high reached in
        let same : high ≡ number = omega arith in
        let one = passed_more (list ∷ []) (list ∷ []) number 0 list new (Some high) (passed_none (list ∷ []) number) (omega arith) refl reached (ap (λ (n : ℕ). Some n) same) in
        subst (λ (n : ℕ). IsPass has (list ∷ []) (new ∷ []) number n) (sym same) (pass_met (list ∷ []) (new ∷ []) number 1 (omega arith) one)
  ]

  pub pass_of_one_ended : (list new : N) (number : ℕ) → Reaches (has list) (has new) number None → IsPassEnded has (list ∷ []) (new ∷ []) number
  pass_of_one_ended list new number reached = passed_ends (list ∷ []) (list ∷ []) number 0 list new None (passed_none (list ∷ []) number) (omega arith) refl reached refl
