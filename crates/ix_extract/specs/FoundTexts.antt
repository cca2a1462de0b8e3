-- The texts of terms that were found.
use Rattle.std.specs.Prelude.{List, ℕ, map, string_bytes}
use Rattle.ix_lookup.specs.declared.found_term.FoundTerm.{FoundTerm}

-- each term's bytes
abbrev pub found_texts : List FoundTerm → List (List ℕ)
found_texts found = map (λ one. string_bytes one.term) found
