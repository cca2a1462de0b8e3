-- Two positions, one of each of two ascending lists, that are close to each other.
use Rattle.std.proofs.Common.{◌≡◌, ◌≢◌, ℕ, ◌+◌, ◌-◌, ◌^◌, ◌<◌, ◌≤◌, ◌↔◌, inl, inr, zero, suc, Bool, IsTrue, Some, List, [], ◌∷◌, Contains, option_map, refl, sym, subst, arith}
use Rattle.std.proofs.lemmas.Bool.{cases_eq, cases_lt}
use Rattle.std.specs.Prelude.{IsSomeAnd}
use Rattle.ix_text.proofs.AscendingLists.{contains_first, contains_later, contains_cases, contains_none}
use Rattle.ix_text.specs.Parts.{HasPosition}
use Rattle.ix_file.specs.Gaps.{Ascends}
use Rattle.ix_file.specs.Postings.{Posting, ArePostings}
use Rattle.ix_query.specs.Meetings.{AreClose, HasNear, IsCloseTo}
use Rattle.ix_query.specs.Satisfaction.{distance_between}
use Rattle.ix_query.specs.Streams.{IsFirst, Reaches, HaveAll, HaveBoth, IsPassed, IsCommon, first_of}
use Rattle.ix_query.proofs.SiftLemmas.{IsCandidate}
use Rattle.ix_query.proofs.StreamLemmas.{contains_range, first_posting_is, none_first}

pub close_none_first : (second : List ℕ) (distance : ℕ) → ¬ (AreClose [] second distance)
close_none_first second distance close = contains_none close.one close.first_has

pub close_none_second : (first : List ℕ) (distance : ℕ) → ¬ (AreClose first [] distance)
close_none_second first distance close = contains_none close.other close.second_has

pub close_here : (one other distance : ℕ) (first second : List ℕ) → one ≢ other → distance_between one other ≤ distance → AreClose (one ∷ first) (other ∷ second) distance
close_here one other distance first second apart near = record {
  one = one;
  other = other;
  first_has = contains_first one first;
  second_has = contains_first other second;
  apart = omega arith;
  near = near;
}

pub close_next : (one other distance : ℕ) (first second : List ℕ) → one ≡ other → Ascends (other + 1) (2 ^ 32 - 1) second → IsSomeAnd (first_of second) (λ next. next - one ≤ distance) → AreClose (one ∷ first) (other ∷ second) distance
close_next one other distance first [] same up follows = absurd follows
close_next one other distance first (next ∷ rest) same up follows = record {
  one = one;
  other = next;
  first_has = contains_first one first;
  second_has = contains_later other (next ∷ rest) next (contains_first next rest);
  apart = omega arith;
  near = omega arith;
}

-- the first position of the first list is close to none of the second
pub drop_one : (one other distance : ℕ) (first second : List ℕ) → one ≤ other → Ascends (other + 1) (2 ^ 32 - 1) second → (one ≢ other → distance < distance_between one other) → (one ≡ other → ¬ (IsSomeAnd (first_of second) (λ next. next - one ≤ distance)))
    → AreClose (one ∷ first) (other ∷ second) distance → AreClose first (other ∷ second) distance
drop_one one other distance first second low up far alone close = elim (contains_cases one first close.one close.first_has) [
  | inl here ↦ absurd (none here)
  | inr later ↦ record { one = close.one; other = close.other; first_has = later; second_has = close.second_has; apart = close.apart; near = close.near }
]
  where
    behind : (rest : List ℕ) → Ascends (other + 1) (2 ^ 32 - 1) rest → (one ≡ other → ¬ (IsSomeAnd (first_of rest) (λ next. next - one ≤ distance))) → Contains rest close.other → one ≡ close.one → ⊥
    behind [] rising alone has here = contains_none close.other has
    behind (next ∷ rest) rising alone has here =
        let range = contains_range next (2 ^ 32 - 1) (next ∷ rest) close.other (omega arith, rising.1, rising.2) has in
        let near = close.near in
        elim (cases_eq one other) [
          | inl same ↦ alone same (omega arith)
          | inr differ ↦ let beyond = far differ in omega arith
        ]

    none : one ≡ close.one → ⊥
    none here = elim (contains_cases other second close.other close.second_has) [
      | inl there ↦
          let apart = close.apart in let near = close.near in
          let differ : one ≢ other = λ same. absurd (omega arith) in let beyond = far differ in omega arith
      | inr further ↦ behind second up alone further here
    ]

pub drop_other : (one other distance : ℕ) (first second : List ℕ) → other < one → Ascends (one + 1) (2 ^ 32 - 1) first → distance < distance_between one other → AreClose (one ∷ first) (other ∷ second) distance → AreClose (one ∷ first) second distance
drop_other one other distance first second low up far close = elim (contains_cases other second close.other close.second_has) [
  | inl here ↦
      let range : one ≤ close.one = elim (contains_cases one first close.one close.first_has) [ inl at ↦ omega arith | inr later ↦ let r = contains_range (one + 1) (2 ^ 32 - 1) first close.one up later in omega arith ] in
      let near = close.near in absurd (omega arith)
  | inr later ↦ record { one = close.one; other = close.other; first_has = close.first_has; second_has = later; apart = close.apart; near = close.near }
]

-- and back
pub close_more_first : (one distance : ℕ) (first second : List ℕ) → AreClose first second distance → AreClose (one ∷ first) second distance
close_more_first one distance first second close =
    record { one = close.one; other = close.other; first_has = contains_later one first close.one close.first_has; second_has = close.second_has; apart = close.apart; near = close.near }

pub close_more_second : (other distance : ℕ) (first second : List ℕ) → AreClose first second distance → AreClose first (other ∷ second) distance
close_more_second other distance first second close =
    record { one = close.one; other = close.other; first_has = close.first_has; second_has = contains_later other second close.other close.second_has; apart = close.apart; near = close.near }

-- what both lists' first postings tell of the document that both stand at
pub near_told : (first second : List Posting) (distance : ℕ) (answer : Bool) → ArePostings 0 (2 ^ 32 - 1) first → ArePostings 0 (2 ^ 32 - 1) second
    → (one other : List ℕ) → option_map (λ (p : Posting). p.1) (first_of first) ≡ Some one → option_map (λ (p : Posting). p.1) (first_of second) ≡ Some other → IsTrue answer ↔ AreClose one other distance
    → (n : ℕ) → IsFirst (HasPosition first) n → IsFirst (HasPosition second) n → IsTrue answer ↔ HasNear first second distance n
near_told [] second distance answer are are' one other first_is second_is told n one_first other_first = absurd (none_first n one_first)
near_told (p ∷ first) [] distance answer are are' one other first_is second_is told n one_first other_first = absurd (none_first n other_first)
near_told ((d, xs) ∷ first) ((e, ys) ∷ second) distance answer are are' one other first_is second_is told n one_first other_first =
    let one_has = first_posting_is d n xs first are one_first in
    let other_has = first_posting_is e n ys second are' other_first in
    let one_is : one ≡ xs = cc in
    let other_is : other ≡ ys = cc in (
      λ yes'. let close = told.0 yes' in record {
        one = close.one;
        other = close.other;
        first_has = (one_has close.one).1 (subst (λ (l : List ℕ). Contains l close.one) one_is close.first_has);
        second_has = (other_has close.other).1 (subst (λ (l : List ℕ). Contains l close.other) other_is close.second_has);
        apart = close.apart;
        near = close.near;
      },
      λ near. told.1 (record {
        one = near.one;
        other = near.other;
        first_has = subst (λ (l : List ℕ). Contains l near.one) (sym one_is) ((one_has near.one).0 near.first_has);
        second_has = subst (λ (l : List ℕ). Contains l near.other) (sym other_is) ((other_has near.other).0 near.second_has);
        apart = near.apart;
        near = near.near;
      }),
    )

-- readers that were passed to a document have the terms near there and behind it where they had them
pub near_passed : (first first_new second second_new : List Posting) (distance number : ℕ) → IsPassed (HasPosition first) (HasPosition first_new) number → IsPassed (HasPosition second) (HasPosition second_new) number
    → IsPassed (λ n place. HasNear first second distance n) (λ n place. HasNear first_new second_new distance n) number
near_passed first first_new second second_new distance number one other n place = (
  λ now. (
    record { one = now.one; other = now.other; first_has = ((one n now.one).0 now.first_has).0; second_has = ((other n now.other).0 now.second_has).0; apart = now.apart; near = now.near },
    ((one n now.one).0 now.first_has).1,
  ),
  λ (was, far).
      record { one = was.one; other = was.other; first_has = (one n was.one).1 (was.first_has, far); second_has = (other n was.other).1 (was.second_has, far); apart = was.apart; near = was.near },
)

-- where the terms are near, both stand
pub near_both : (first second : List Posting) (distance number : ℕ) → HasNear first second distance number → HaveBoth HasPosition first (second ∷ []) number
near_both first second distance number near = ((near.one, near.first_has), go)
  where
    go : HaveAll HasPosition (second ∷ []) number
    go zero list at = (near.other, let same : second ≡ list = cc in subst (λ (l : List Posting). HasPosition l number near.other) same near.second_has)
    go (suc k) list at = absurd (cc)

-- the document that two readers have in common is a candidate
pub near_candidate : (first first_new second second_new : List Posting) (distance least number : ℕ)
    → Reaches (λ n place. HaveBoth HasPosition first (second ∷ []) n) (λ n place. HaveBoth HasPosition first_new (second_new ∷ []) n) least (Some number) → IsCommon HasPosition first first_new (second ∷ []) (second_new ∷ []) number
    → IsCandidate (λ n place. HasNear first second distance n) (λ n place. HasNear first_new second_new distance n) least number
near_candidate first first_new second second_new distance least number reached common = record {
  above = let (place, has) = reached.found.holds in ((reached.kept number place).0 has).1;
  passed = near_passed first first_new second second_new distance number common.first (common.others 0 second second_new refl refl);
  first = λ n place near far. reached.found.first n place ((reached.kept n place).1 (near_both first second distance n near, far));
  below = reached.found.below;
}

-- and both stand there first
pub both_first : (first first_new second second_new : List Posting) (least number : ℕ)
    → Reaches (λ n place. HaveBoth HasPosition first (second ∷ []) n) (λ n place. HaveBoth HasPosition first_new (second_new ∷ []) n) least (Some number) → IsCommon HasPosition first first_new (second ∷ []) (second_new ∷ []) number
    → IsFirst (HasPosition first_new) number × IsFirst (HasPosition second_new) number
both_first first first_new second second_new least number reached common =
    let (place, both) = reached.found.holds in (
      record { holds = both.0; first = λ n p has. ((common.first n p).0 has).1; below = reached.found.below },
      record { holds = both.1 0 second_new refl; first = λ n p has. ((common.others 0 second second_new refl refl n p).0 has).1; below = reached.found.below },
    )

-- ---- the walk over both lists

-- what two lists have, of which each one's first is at hand: some positions were dropped that are close to none
pub record Closing (one other : ℕ) (first second : List ℕ) (distance : ℕ) (whole : Type 0) : Type 0 where
  pub first_up : Ascends (one + 1) (2 ^ 32 - 1) first
  pub second_up : Ascends (other + 1) (2 ^ 32 - 1) second
  pub same : AreClose (one ∷ first) (other ∷ second) distance ↔ whole

module _ (one other : ℕ) (first second : List ℕ) (distance : ℕ) (whole : Type 0) (at : Closing one other first second distance whole) where
  pub close_found : IsCloseTo one other second distance → whole
  close_found (inl (apart, near)) = at.same.0 (close_here one other distance first second apart near)
  close_found (inr (same, follows)) = at.same.0 (close_next one other distance first second same at.second_up follows)

  module _ (lacks : ¬ (IsCloseTo one other second distance)) where
    far : one ≢ other → distance < distance_between one other
    far apart = elim (cases_lt distance (distance_between one other)) [ inl beyond ↦ beyond | inr near ↦ absurd (lacks (inl (apart, near))) ]

    without_one : one ≤ other → whole → AreClose first (other ∷ second) distance
    without_one low holds = drop_one one other distance first second low at.second_up far (λ same follows. lacks (inr (same, follows))) (at.same.1 holds)

    without_other : other < one → whole → AreClose (one ∷ first) second distance
    without_other low holds = drop_other one other distance first second low at.first_up (far (λ same. absurd (omega arith))) (at.same.1 holds)

    pub closing_first : (next : ℕ) (rest : List ℕ) → first ≡ next ∷ rest → one ≤ other → Closing next other rest second distance whole
    closing_first next rest taken low = record {
      first_up = (subst (λ (l : List ℕ). Ascends (one + 1) (2 ^ 32 - 1) l) taken at.first_up).2;
      second_up = at.second_up;
      same = subst (λ (l : List ℕ). AreClose l (other ∷ second) distance ↔ whole) taken
          (λ close. at.same.0 (close_more_first one distance first (other ∷ second) close), without_one low);
    }

    pub closing_second : (next : ℕ) (rest : List ℕ) → second ≡ next ∷ rest → other < one → Closing one next first rest distance whole
    closing_second next rest taken low = record {
      first_up = at.first_up;
      second_up = (subst (λ (l : List ℕ). Ascends (other + 1) (2 ^ 32 - 1) l) taken at.second_up).2;
      same = subst (λ (l : List ℕ). AreClose (one ∷ first) l distance ↔ whole) taken
          (λ close. at.same.0 (close_more_second other distance (one ∷ first) second close), without_other low);
    }

    pub ended_first : first ≡ [] → one ≤ other → ¬ whole
    ended_first none low holds = close_none_first (other ∷ second) distance (subst (λ (l : List ℕ). AreClose l (other ∷ second) distance) none (without_one low holds))

    pub ended_second : second ≡ [] → other < one → ¬ whole
    ended_second none low holds = close_none_second (one ∷ first) distance (subst (λ (l : List ℕ). AreClose (one ∷ first) l distance) none (without_other low holds))
