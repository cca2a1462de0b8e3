-- The terms that the matchers of a query's words and patterns look for.
use Rattle.std.specs.Prelude.{◌⊎◌, ℕ, List, map, Any, Contains}
use Rattle.std.specs.Borrow.{Bor}
use Rattle.ix_gram.specs.Patterns.{Matches}
use Rattle.ix_lookup.specs.Fronts.{HasFront, IsHeld}
use Rattle.ix_lookup.specs.declared.any_of.AnyOf.{AnyOf}
use Rattle.ix_lookup.specs.Words.{AreAtTerm, texts_of}
use Rattle.ix_extract.specs.declared.query_matcher.Part.{Part}
use Rattle.ix_extract.specs.declared.query_matcher.Part.TheVariants.{Words, Pattern}

-- The term is one of the words, or one that the pattern matches.
abbrev pub IsPartWanted : Part → List ℕ → Type 0
IsPartWanted (Words words) term = Contains (texts_of words) term
IsPartWanted (Pattern matcher) term = HasFront matcher.front.text.now term × Matches term matcher.test.pattern.now

-- The scan has come to the term.
abbrev pub IsPartAt : Part → List ℕ → Type 0
IsPartAt (Words words) term = AreAtTerm words term
IsPartAt (Pattern matcher) term = IsHeld matcher.front matcher.term.items term

-- The term is one of the texts.
abbrev pub IsText : List (Bor (List ℕ)) → List ℕ → Type 0
IsText texts term = Contains (map (λ text. text.now) texts) term

-- The term is one of the words, or one of the matchers looks for it.
abbrev pub IsSought : List (Bor (List ℕ)) → AnyOf Part → List ℕ → Type 0
IsSought words patterns term = IsText words term ⊎ Any (λ part. IsPartWanted part term) patterns.matchers.items
