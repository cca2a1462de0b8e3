use Rattle.std.proofs.Common.{arith}
use Rattle.std.proofs.lemmas.Str.{IsCharBoundary-after_ascii}
use Rattle.ix_query_text.proofs.lexeme.read_front.Goals as goal

pub returns-in-32-clause-cut : goal.returns-in-32-clause-cut
returns-in-32-clause-cut c = IsCharBoundary-after_ascii c.args.text.now 0 c.utf8.text c.requires (rw (← c.as_bytes.ensures.value) (omega (arith, c.in-32.is)))

pub returns-in-40-clause-cut : goal.returns-in-40-clause-cut
returns-in-40-clause-cut c = IsCharBoundary-after_ascii c.args.text.now 0 c.utf8.text c.requires (rw (← c.as_bytes.ensures.value) (omega (arith, c.in-40.is)))

pub returns-in-41-clause-cut : goal.returns-in-41-clause-cut
returns-in-41-clause-cut c = IsCharBoundary-after_ascii c.args.text.now 0 c.utf8.text c.requires (rw (← c.as_bytes.ensures.value) (omega (arith, c.in-41.is)))
