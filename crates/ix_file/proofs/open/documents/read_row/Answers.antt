use Rattle.std.proofs.Common.{◌≡◌, ◌++◌, sym, subst}
use Rattle.std.proofs.lemmas.Result.{err_from_is_err_and}
use Rattle.ix_text.specs.Collections.{IsName}
use Rattle.ix_vbyte.specs.Code.{code_of}
use Rattle.ix_vbyte.specs.Texts.{counted}
use Rattle.ix_file.proofs.RowReading.{named, row_found, tokens_behind}
use Rattle.ix_file.proofs.open.documents.read_row.Goals as goal

pub returns-in_err-tokens-clause-refused : goal.returns-in_err-tokens-clause-refused
returns-in_err-tokens-clause-refused c =
    let p = err_from_is_err_and c.from_residual-in_err-tokens.result c.from_residual-in_err-tokens.ensures.1 in
    rw p.1
    (λ row rest is small e.
    c.in_err-tokens.ensures.refused row.tokens rest small
    (tokens_behind c.args.left.now c.in_ok-name.name.now c.in_ok-name.behind.now row rest c.in_ok-name.ensures.found.1 e))

pub returns-clause-name : goal.returns-clause-name
returns-clause-name c =
    subst IsName
    (sym (named c.args.section.now c.requires.0 c.args.left.now c.in_ok-name.name.now c.in_ok-name.behind.now c.requires.1 c.in_ok-name.ensures.found.1))
    c.in_ok-name.ensures.found.0

pub returns-clause-found : goal.returns-clause-found
returns-clause-found c =
    subst (λ name. c.args.left.now ≡ counted name ++ code_of c.in_ok-tokens.tokens ++ c.in_ok-tokens.rest.now)
    (sym (named c.args.section.now c.requires.0 c.args.left.now c.in_ok-name.name.now c.in_ok-name.behind.now c.requires.1 c.in_ok-name.ensures.found.1))
    (row_found c.args.left.now c.in_ok-name.name.now c.in_ok-name.behind.now c.in_ok-tokens.rest.now c.in_ok-tokens.tokens c.in_ok-name.ensures.found.1 c.in_ok-tokens.ensures.found.1)
