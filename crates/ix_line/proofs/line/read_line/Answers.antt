-- Words with no fault name a command, whose matches fit it.
use Rattle.std.proofs.Common.{◌∙◌, subst, sym}
use Rattle.std.specs.Prelude.{IsSomeAnd}
use Rattle.ix_line.specs.Commands.{ix_built}
use Rattle.ix_line.specs.Entered.{Entered}
use Rattle.ix_line.specs.Lines.{texts_of}
use Rattle.ix_line.proofs.Matched.{is_there, named, rows_refused_up}
use Rattle.ix_line.proofs.line.read_line.Goals as goal

pub entered-requires : goal.entered-requires
entered-requires c = is_there _ _ (named (texts_of c.args.words.now) c.in_ok-matches.matches c.in_ok-matches.ensures.ok)

pub line_of-requires : goal.line_of-requires
line_of-requires c =
    subst (λ o. IsSomeAnd o (λ q. Entered ix_built q.0 q.1)) c.entered.ensures
    (named (texts_of c.args.words.now) c.in_ok-matches.matches c.in_ok-matches.ensures.ok)

pub returns-in_err-line-clause-err : goal.returns-in_err-line-clause-err
returns-in_err-line-clause-err c =
    rows_refused_up c.from_residual-in_err-line.result (texts_of c.args.words.now) _ _ c.in_err-line.field-0.0
    (c.in_ok-matches.ensures.ok.0, sym c.in_ok-matches.ensures.ok.1 ∙ c.entered.ensures) c.in_err-line.ensures.refused
    c.from_residual-in_err-line.ensures.1
