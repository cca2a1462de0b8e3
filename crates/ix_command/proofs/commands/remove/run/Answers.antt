-- The line has the names, or the file of them.
use Rattle.std.proofs.Common.{refl}
use Rattle.ix_command.proofs.commands.remove.run.Goals as goal

pub returns-in-List : goal.returns-in-List
returns-in-List g c = rw c.in-List.is c.remove_listed.ensures

pub returns-in-Names-clause-kept : goal.returns-in-Names-clause-kept
returns-in-Names-clause-kept g c =
    let kept = rw c.deref.ensures.value at c.remove_names.ensures.kept in
    rw c.in-Names.is (λ honest. kept honest _ refl)

pub returns-in-Names-clause-changes : goal.returns-in-Names-clause-changes
returns-in-Names-clause-changes g c = c.remove_names.ensures.changes

pub returns-in-Names-clause-refused : goal.returns-in-Names-clause-refused
returns-in-Names-clause-refused g c = c.remove_names.ensures.refused c.args.names.now
