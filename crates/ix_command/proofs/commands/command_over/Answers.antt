-- What was done for the words, and why they were refused, is so of the words as they were spelled.
use Rattle.std.proofs.Common.{inl, inr}
use Rattle.ix_command.proofs.Doing.{keeps_itself, nothing_yet}
use Rattle.ix_command.proofs.commands.command_over.Goals as goal

pub returns-in-Ok-run-clause-files : goal.returns-in-Ok-run-clause-files
returns-in-Ok-run-clause-files g c = rw (c.as_slice.ensures.value, c.in-Ok.ensures) at c.run.ensures.files

pub returns-clause-files : goal.returns-clause-files
returns-clause-files g c = rw (c.as_slice.ensures.value, c.in-Ok.ensures) at c.run.ensures.files

pub returns-clause-undone : goal.returns-clause-undone
returns-clause-undone g c = λ _. rw (c.as_slice.ensures.value, c.in-Ok.ensures) at c.in-Err-run.ensures.undone

pub returns-clause-refused : goal.returns-clause-refused
returns-clause-refused g c = λ _. inl (record {
  told = c.in-Err-run.refusal;
  reason = rw (c.as_slice.ensures.value, c.in-Ok.ensures) at c.in-Err-run.ensures.refused;
  line = c.refuse-in-Err-run.ensures.told;
})

pub returns-in-Ok-run-clause-found : goal.returns-in-Ok-run-clause-found
returns-in-Ok-run-clause-found g c = rw (c.as_slice.ensures.value, c.in-Ok.ensures) at c.in-Ok-run.ensures.found

pub returns-in-Ok-run-clause-refused : goal.returns-in-Ok-run-clause-refused
returns-in-Ok-run-clause-refused g c = λ two.
    let faults = rw (c.as_slice.ensures.value, c.in-Ok.ensures) at c.in-Ok-run.ensures.faults in
    inr (faults two, keeps_itself _)

pub returns-in-Ok-run-clause-kept : goal.returns-in-Ok-run-clause-kept
returns-in-Ok-run-clause-kept g c = rw (c.as_slice.ensures.value, c.in-Ok.ensures) at c.run.ensures.kept

pub returns-clause-kept : goal.returns-clause-kept
returns-clause-kept g c = rw (c.as_slice.ensures.value, c.in-Ok.ensures) at c.run.ensures.kept

pub returns-in-Err-clause-kept : goal.returns-in-Err-clause-kept
returns-in-Err-clause-kept g c = λ _. inl (nothing_yet _ (g.met.F.Files.only_now c.args.files.now))
