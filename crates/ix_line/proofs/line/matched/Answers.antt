-- The clauses of the parse, at the program's own commands.
use Rattle.clap.specs.Words.{app_of}
use Rattle.ix_line.specs.Lines.{texts_of}
use Rattle.ix_line.proofs.Matched.{matched, refused_up}
use Rattle.ix_line.proofs.line.matched.Goals as goal

pub returns-in_err-matches-clause-err : goal.returns-in_err-matches-clause-err
returns-in_err-matches-clause-err c =
    refused_up c.from_residual-in_err-matches.result (app_of c.in_ok-command.command) (texts_of c.args.words.now) c.in_err-matches.field-0.0 c.in_ok-command.ensures
    c.in_err-matches.ensures.kinds c.from_residual-in_err-matches.ensures.1

pub returns-clause-ok : goal.returns-clause-ok
returns-clause-ok c =
    matched (app_of c.in_ok-command.command) (texts_of c.args.words.now) c.in_ok-matches.matches c.in_ok-command.ensures c.in_ok-matches.ensures.kinds
    c.in_ok-matches.ensures.matches
