use Rattle.std.proofs.Common.{ℕ, List, ◌<◌, get_or}
use Rattle.ix_lookup.specs.TermOrder.{IsBelow}
use Rattle.ix_lookup.proofs.any_of.AnyOfTermMatcher.is_past.Given as goal

abbrev pub invariant-loop-place : goal.invariant-loop-place
invariant-loop-place g l =
    (k : ℕ) (none : _) (term later : List ℕ) → k < l.place → g.M.TermMatcher.is_at (get_or l.self.matchers.items k none) term → IsBelow term later → ¬ (g.M.TermMatcher.wants (get_or l.self.matchers.items k none) later)
