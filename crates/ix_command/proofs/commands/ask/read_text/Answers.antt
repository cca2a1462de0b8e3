-- There was room for more than what was read, so it is the whole file.
use Rattle.std.proofs.Common.{subst, sym, arith}
use Rattle.ix_command.proofs.FileLemmas.{read_all}
use Rattle.ix_files.specs.Reading.{held_in}
use Rattle.ix_command.proofs.commands.ask.read_text.Goals as goal

pub returns-clause-held : goal.returns-clause-held
returns-clause-held g c =
    let front = c.in_ok-bytes.ensures.front in
    subst (held_in (g.F.Files.view c.args.files.now) c.args.path.now)
    (sym (read_all _ front.whole front.cut (λ full. c.if-len-eq-ROOM.false (omega (arith, c.len.ensures, full))))) front.held
