use Rattle.std.proofs.Common.{arith}
use Rattle.std.proofs.lemmas.Str.{IsCharBoundary-after_ascii}
use Rattle.ix_query_text.proofs.Lexing.{quoted_found, quoted_open}
use Rattle.ix_query_text.proofs.lexeme.read_quoted.Goals as goal

pub split_at-requires : goal.split_at-requires
split_at-requires c = IsCharBoundary-after_ascii c.args.text.now 0 c.utf8.text c.requires.some (omega (arith, c.requires.mark))

pub returns-in-Some-clause-reading : goal.returns-in-Some-clause-reading
returns-in-Some-clause-reading c =
    let parts = c.in-Some.ensures.byte (omega arith) (λ w o h. h) in
    rw (← c.split_at.ensures.back) (quoted_found c.split_at.result.1.now c.in-Some.quoted.now parts.0 parts.2)

pub returns-in-None-clause-reading : goal.returns-in-None-clause-reading
returns-in-None-clause-reading c =
    rw (← c.split_at.ensures.back) (quoted_open c.split_at.result.1.now (c.in-None.ensures.byte (omega arith) (λ w o h. h)))
