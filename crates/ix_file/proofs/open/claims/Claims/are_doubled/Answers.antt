use Rattle.std.proofs.Common.{◌↔◌, ℕ, List, IsTrue, subst}
use Rattle.std.specs.List.Sorted.{IsStrictlyIncreasing}
use Rattle.std.proofs.lemmas.List.Sorted.{IsNonDecreasingBy-from_sort}
use Rattle.ix_file.specs.Claimed.{HasClaimed}
use Rattle.ix_file.specs.declared.open.claims.Claims.{Claims}
use Rattle.ix_file.proofs.ClaimLemmas.{listed_doubled, marked_doubled}
use Rattle.ix_file.proofs.open.claims.Claims.are_doubled.Goals as goal

pub returns-in-Marked : goal.returns-in-Marked
returns-in-Marked c numbers has = marked_doubled _ _ numbers (subst (λ (claims : Claims). HasClaimed claims numbers) c.in-Marked.is has)

pub returns : goal.returns
returns c numbers has =
    listed_doubled c.in-Listed.numbers c.sort_unstable.new.self.items numbers c.are_rising.result
    (subst (λ (claims : Claims). HasClaimed claims numbers) c.in-Listed.is has) c.sort_unstable.ensures.permutation
    (IsNonDecreasingBy-from_sort (λ x. x) c.sort_unstable.new.self.items c.sort_unstable.ensures.sorted)
    (subst (λ (xs : List ℕ). IsTrue c.are_rising.result ↔ IsStrictlyIncreasing xs) c.deref.ensures.value c.are_rising.ensures)
