-- A line that was refused was read.
use Rattle.std.proofs.Common.{◌∙◌, inl, inr, refl, sym, true≢false}
use Rattle.ix_command.specs.Statuses.{twice, undone}
use Rattle.ix_command.proofs.Doing.{keeps_itself, nothing_yet}
use Rattle.ix_command.proofs.FileLemmas.{handed_up}
use Rattle.ix_command.proofs.StatusLemmas.{status_found}
use Rattle.ix_command.proofs.commands.run.Goals as goal

pub returns-then-reads_input_twice-clause-refused : goal.returns-then-reads_input_twice-clause-refused
returns-then-reads_input_twice-clause-refused g c =
    twice c.in-Ok.line c.in-Ok.ensures.ok (c.reads_input_twice.ensures.0 c.if-reads_input_twice.true) refl (keeps_itself _)

pub returns-in_err-count-in-Ok-clause-refused : goal.returns-in_err-count-in-Ok-clause-refused
returns-in_err-count-in-Ok-clause-refused g c =
    handed_up _ c.from_residual.result c.in_err-count-in-Ok.field-0.0 c.from_residual.ensures.1 (undone c.in-Ok.line c.in-Ok.ensures.ok c.in_err-count-in-Ok.ensures.refused)

pub returns-in_ok-count-in-Ok-clause-found : goal.returns-in_ok-count-in-Ok-clause-found
returns-in_ok-count-in-Ok-clause-found g c = λ none.
    inr (status_found _ _ _ _ _ _ _ c.in-Ok.line c.in-Ok.ensures.ok (λ reads. true≢false (sym (c.reads_input_twice.ensures.1 reads) ∙ c.if-reads_input_twice.false))
    c.is_check-checks.result c.in_ok-count-in-Ok.count c.is_check-checks.ensures c.in_ok-count-in-Ok.ensures.done (sym c.status_of.ensures ∙ none))

pub returns-then-reads_input_twice-clause-kept : goal.returns-then-reads_input_twice-clause-kept
returns-then-reads_input_twice-clause-kept g c = λ _. inl (nothing_yet _ (g.met.F.Files.only_now c.args.files.now))

pub returns-in_err-answer_without_line-in-Err-clause-kept : goal.returns-in_err-answer_without_line-in-Err-clause-kept
returns-in_err-answer_without_line-in-Err-clause-kept g c = λ _. inl (nothing_yet _ (g.met.F.Files.only_now c.args.files.now))

pub returns-in_ok-answer_without_line-in-Err-clause-kept : goal.returns-in_ok-answer_without_line-in-Err-clause-kept
returns-in_ok-answer_without_line-in-Err-clause-kept g c = λ _. inl (nothing_yet _ (g.met.F.Files.only_now c.args.files.now))
