use Rattle.std.proofs.Common.{arith}
use Rattle.ix_lookup.specs.Words.{AreAtTerm, texts_of}
use Rattle.ix_lookup.proofs.WordsLemmas.{none_left, passed_on, texts_count}
use Rattle.ix_lookup.proofs.words.WordsTermMatcher.is_past.Goals as goal

pub returns : goal.returns
returns c = λ all term later at above among.
    let words = c.args.self.now in
    let is : AreAtTerm words term = at in
    none_left (texts_of words) words.place later (passed_on (texts_of words) words.place term later is.passed above) (omega (arith, texts_count words, c.is_behind.ensures.0 all)) among
