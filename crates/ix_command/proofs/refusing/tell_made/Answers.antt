-- The line of `Memory` needs no memory.
use Rattle.std.proofs.Common.{inr}
use Rattle.ix_command.proofs.LineLemmas.{err_map, ok_map}
use Rattle.ix_command.proofs.refusing.tell_made.Goals as goal

pub returns-in-Err-clause-whole : goal.returns-in-Err-clause-whole
returns-in-Err-clause-whole g c = ok_map c.put_all.result (λ whole. inr (c.requires, whole)) c.put_all.ensures.whole

pub returns-in-Err-clause-front : goal.returns-in-Err-clause-front
returns-in-Err-clause-front g c = err_map c.put_all.result (λ front. inr (c.requires, front)) c.put_all.ensures.front
