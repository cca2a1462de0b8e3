use Rattle.std.specs.Prelude.{All}
use Rattle.ix_text.specs.Parts.{terms_of}
use Rattle.ix_gram.specs.Candidates.{AreCandidates}
use Rattle.ix_gram.proofs.grams.gram_lists.Given as goal

abbrev pub invariant-loop-piece : goal.invariant-loop-piece
invariant-loop-piece l = All (AreCandidates (terms_of l.index.parts.entries) l.pattern) l.lists.items
