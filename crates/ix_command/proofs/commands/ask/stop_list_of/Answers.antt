-- What was read is the whole file, or there was room for no more of it.
use Rattle.std.proofs.Common.{◌≡◌, ◌∙◌, ◌⊎◌, inr, refl, subst, arith}
use Rattle.std.specs.Prelude.{IsUtf8}
use Rattle.ix_text.specs.StopText.{IsStopText}
use Rattle.ix_text.specs.StopFaults.{IsStopFault}
use Rattle.ix_text.specs.declared.stop.StopError.TheVariants as stop_error
use Rattle.ix_command.proofs.FileLemmas.{read_all, read_within}
use Rattle.ix_command.proofs.commands.ask.stop_list_of.Goals as goal

pub returns-then-bytes-eq-ROOM-clause-refused : goal.returns-then-bytes-eq-ROOM-clause-refused
returns-then-bytes-eq-ROOM-clause-refused c = λ whole cut. inr (read_within _ whole cut (omega (arith, c.if-bytes-eq-ROOM.true)))

pub returns-in_default-clause-refused : goal.returns-in_default-clause-refused
returns-in_default-clause-refused c = λ whole cut. (refl, subst (λ text. ¬ (IsUtf8 text)) (read_all _ whole cut c.if-bytes-eq-ROOM.false) c.in_default.ensures.cases.0)

pub returns-in-Ok-read-clause-read : goal.returns-in-Ok-read-clause-read
returns-in-Ok-read-clause-read c = λ whole cut.
    subst (λ text. IsStopText text c.in-Ok-read.stop) (c.in-Ok.ensures.cases.0 ∙ read_all _ whole cut c.if-bytes-eq-ROOM.false) c.in-Ok-read.ensures.terms

pub returns-in-Err-clause-refused : goal.returns-in-Err-clause-refused
returns-in-Err-clause-refused c = λ whole cut.
    subst (λ text. (c.in-Err.error ≡ stop_error.Memory) ⊎ IsStopFault text c.in-Err.error) (c.in-Ok.ensures.cases.0 ∙ read_all _ whole cut c.if-bytes-eq-ROOM.false) c.in-Err.ensures.fault
