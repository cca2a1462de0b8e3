use Rattle.std.proofs.Common.{ℕ, Ok, Err, arith}
use Rattle.ix_query_text.proofs.Lexing.{near_parsed}
use Rattle.ix_query_text.proofs.lexeme.near.Goals as goal

pub returns-in-Ok : goal.returns-in-Ok
returns-in-Ok c = rw c.from.ensures (near_parsed {E = ℕ} c.args.digits.now (Ok c.in-Ok.distance) (rw (← c.as_bytes.ensures.value) (omega arith)) c.in-Ok.ensures.value.0)

pub returns-in-Err : goal.returns-in-Err
returns-in-Err c = near_parsed c.args.digits.now (Err c.in-Err.field-0) (rw (← c.as_bytes.ensures.value) (omega arith)) c.in-Err.ensures.value.0
