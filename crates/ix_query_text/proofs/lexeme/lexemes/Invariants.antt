use Rattle.std.proofs.Common.{map, length}
use denote.Text.{Utf8}
use denote.Shadow.{shadow}
use Rattle.ix_query_text.specs.Lexemes.{lexeme_of}
use Rattle.ix_query_text.proofs.LexemeLists.{LexedBefore}
use Rattle.ix_query_text.proofs.lexeme.lexemes.Given as goal

abbrev pub invariant-loop-rest : goal.invariant-loop-rest
invariant-loop-rest l = record { text : shadow (Utf8 l.rest); lexed : LexedBefore l.text (map lexeme_of l.found.items) l.offset l.rest }

abbrev pub decreases-loop-rest : goal.decreases-loop-rest
decreases-loop-rest l = length l.rest
