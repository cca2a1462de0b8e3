-- A stream of which each number is tested: the numbers that fail are passed.
use Rattle.std.proofs.Common.{ℕ, ◌+◌, ◌-◌, ◌^◌, ◌<◌, ◌≤◌, inl, inr, None, Some, sym, subst, arith}
use Rattle.std.proofs.lemmas.Bool.{cases_eq}
use Rattle.ix_query.specs.Streams.{Pairs, Have, Reaches, IsPassed, IsSameFrom}

-- from `least` on all is as it was, and no number between is left
pub record Sifted (old now : Pairs) (low least : ℕ) : Type 0 where
  pub above : low ≤ least
  pub same : IsSameFrom old now least
  pub next : (n place : ℕ) → old n place → low ≤ n → least ≤ n

-- what a candidate is: what is left begins there, and nothing was lost before it
pub record IsCandidate (now new : Pairs) (least number : ℕ) : Type 0 where
  pub above : least ≤ number
  pub passed : IsPassed now new number
  pub first : (n place : ℕ) → now n place → least ≤ n → number ≤ n
  pub below : number < 2 ^ 32 - 1

pub sifted_more : (old now new : Pairs) (low least number : ℕ) → Sifted old now low least → IsCandidate now new least number → ¬ (Have new number) → Sifted old new low (number + 1)
sifted_more old now new low least number sifted candidate lacks = record {
  above = let a = sifted.above in let b = candidate.above in omega arith;
  same = λ n place. (
    λ there. (sifted.same n place).0 ((candidate.passed n place).0 there).0,
    λ was far. (candidate.passed n place).1 ((sifted.same n place).1 was (let b = candidate.above in omega arith), omega arith),
  );
  next = λ n place was above.
      let far = sifted.next n place was above in
      let had = (sifted.same n place).1 was far in
      let least_is = candidate.first n place had far in
      elim (cases_eq number n) [
        | inl same ↦ absurd (lacks (place, let P : ℕ → Type 0 = λ m. new m place in subst P (sym same) ((candidate.passed n place).1 (had, least_is))))
        | inr apart ↦ omega arith
      ];
}

pub sifted_found : (old now new : Pairs) (low least number : ℕ) → Sifted old now low least → IsCandidate now new least number → Have new number → Reaches old new low (Some number)
sifted_found old now new low least number sifted candidate has = record {
  kept = λ n place. (
    λ there.
        let had = (candidate.passed n place).0 there in
        ((sifted.same n place).0 had.0, let a = sifted.above in let b = candidate.above in let d = had.1 in omega arith),
    λ h.
        let far = sifted.next n place h.0 h.1 in
        let had = (sifted.same n place).1 h.0 far in
        (candidate.passed n place).1 (had, candidate.first n place had far),
  );
  found = record {
    holds = has;
    first = λ n place there. ((candidate.passed n place).0 there).1;
    below = candidate.below;
  };
}

pub sifted_ended : (old now new : Pairs) (low least : ℕ) → Sifted old now low least → ((n place : ℕ) → now n place → ¬ (least ≤ n)) → ((n place : ℕ) → ¬ (new n place)) → Reaches old new low None
sifted_ended old now new low least sifted past none = record {
  kept = λ n place. (
    λ there. absurd (none n place there),
    λ h. let far = sifted.next n place h.0 h.1 in absurd (past n place ((sifted.same n place).1 h.0 far) far),
  );
  found = none;
}
