-- What the lexemes give is what those that are left give from the state.
use Rattle.std.proofs.Common.{◌≡◌, map, drop}
use Rattle.ix_query_text.specs.Lexemes.{lexeme_of}
use Rattle.ix_query_text.specs.Machine.{tree_of, tree_from}
use Rattle.ix_query_text.specs.Parsing.{state_of}
use Rattle.ix_query_text.proofs.parser.parse_lexemes.Given as goal

abbrev pub invariant-loop-lexeme : goal.invariant-loop-lexeme
invariant-loop-lexeme l = tree_of l.stop (map lexeme_of l.lexemes) ≡ tree_from l.stop (state_of l.state) (map lexeme_of (drop l.lexeme-index l.rest))
