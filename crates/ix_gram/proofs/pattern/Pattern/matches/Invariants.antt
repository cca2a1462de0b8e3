use Rattle.std.proofs.Common.{◌++◌, ◌∷◌, [], drop, map}
use Rattle.std.specs.Prelude.{string_bytes}
use denote.Text.{Utf8}
use denote.Shadow.{shadow}
use Rattle.ix_gram.proofs.Splittings.{Tells}
use Rattle.ix_gram.proofs.pattern.Pattern.matches.Given as goal

-- says that each `&str` the loop changes is text, and that the pieces from here on tell of the whole term
abbrev pub invariant-loop-piece : goal.invariant-loop-piece
invariant-loop-piece l =
    shadow (Utf8 l.rest)
    × Tells l.term l.self l.rest (map string_bytes (drop l.piece-index l.piece-items) ++ string_bytes l.self-inside.last ∷ [])
