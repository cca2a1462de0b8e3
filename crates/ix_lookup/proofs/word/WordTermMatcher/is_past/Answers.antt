use Rattle.std.proofs.Common.{sym, ◌∙◌}
use Rattle.std.specs.Cmp.Lexicographic.{slice_cmp}
use Rattle.std.specs.Ordering.{nat_cmp}
use Rattle.ix_lookup.specs.Words.{IsAtTerm}
use Rattle.ix_lookup.proofs.FrontLemmas.{past_word, lt_less}
use Rattle.ix_lookup.proofs.word.WordTermMatcher.is_past.Goals as goal

pub returns : goal.returns
returns c = λ below term later at above e.
    let is : IsAtTerm c.args.self.now term = at in
    past_word term later c.args.self.now.text.now (lt_less (slice_cmp nat_cmp c.args.self.now.text.now term) (sym is.below ∙ below)) above e
