-- A file with a fault has its line.
use Rattle.std.proofs.Common.{refl, subst}
use Rattle.ix_files.specs.Reading.{held_in}
use Rattle.ix_command.specs.CheckedFiles.{IsJudged}
use Rattle.ix_command.proofs.CheckLemmas.{looks_faulty}
use Rattle.ix_command.proofs.commands.check.look_at.Goals as goal

pub returns-in_ok-put_fault-in-Some-clause-looked_at : goal.returns-in_ok-put_fault-in-Some-clause-looked_at
returns-in_ok-put_fault-in-Some-clause-looked_at g c =
    let holds = held_in (g.F.Files.view c.args.files.now) in
    let judged = subst (IsJudged holds c.args.path.now) c.in-Some.is c.in_ok-fault.ensures.judged in
    looks_faulty holds c.args.path.now c.in-Some.fault c.args.lines.now _ judged c.in_ok-put_fault-in-Some.ensures.gained refl
