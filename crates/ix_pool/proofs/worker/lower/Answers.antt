use Rattle.std.proofs.Common.{List, ◌++◌, subst, arith}
use Rattle.std.specs.Prelude.{Option, Some, None}
use Rattle.ix_pool.specs.declared.worker.Refusal.{Refusal}
use Rattle.ix_pool.specs.Lowest.{IsLowest}
use Rattle.ix_pool.proofs.LowestLemmas.{none_refused-append, lowest_before, lowest_behind, first_lower, second_lower}
use Rattle.ix_pool.proofs.worker.lower.Goals as goal

pub returns-in_default : goal.returns-in_default
returns-in_default c = λ askings more one other. none_first askings more c.args.second (subst (IsLowest askings) c.in_default.is one) other
  where
    none_first : (askings more : List _) (second : Option Refusal) → IsLowest askings None → IsLowest more second → IsLowest (askings ++ more) second
    none_first askings more None one other = none_refused-append askings more one other
    none_first askings more (Some r) one other = lowest_behind askings more r one other

pub returns-in_default-second : goal.returns-in_default-second
returns-in_default-second c = λ askings more one other. lowest_before askings more c.in-Some.one (subst (IsLowest askings) c.in-Some.is one) (subst (IsLowest more) c.in_default-second.is other)

pub returns-then-one-other : goal.returns-then-one-other
returns-then-one-other c = λ askings more one other. first_lower askings more c.in-Some.one c.in-Some-second.other c.if-one-other.true (subst (IsLowest askings) c.in-Some.is one) (subst (IsLowest more) c.in-Some-second.is other)

pub returns-else-one-other : goal.returns-else-one-other
returns-else-one-other c =
    λ askings more one other.
    second_lower askings more c.in-Some.one c.in-Some-second.other (omega arith) (subst (IsLowest askings) c.in-Some.is one) (subst (IsLowest more) c.in-Some-second.is other)
