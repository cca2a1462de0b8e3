use Rattle.std.proofs.Common.{◌≡◌, ◌∷◌, ◌++◌, length, map}
use Rattle.std.specs.Prelude.{string_bytes}
use denote.Text.{Utf8}
use denote.Shadow.{shadow}
use Rattle.ix_gram.specs.Patterns.{pieces_of}
use Rattle.ix_gram.proofs.pattern.Pattern.read.Given as goal

-- says that each `&str` the loop changes is text, and that the pieces of the rest are those that are missing
abbrev pub invariant-loop-piece : goal.invariant-loop-piece
invariant-loop-piece l =
    shadow (Utf8 l.rest)
    × (pieces_of l.text ≡ string_bytes l.first ∷ (map string_bytes l.inner.items ++ pieces_of l.rest))

abbrev pub decreases-loop-piece : goal.decreases-loop-piece
decreases-loop-piece l = length l.rest
