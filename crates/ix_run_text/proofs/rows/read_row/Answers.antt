-- A row that stands first is the one that is read.
use Rattle.std.proofs.Common.{◌++◌, arith, string_bytes}
use Rattle.std.proofs.lemmas.Result.{err_from_is_err_and}
use Rattle.ix_vbyte.specs.Code.{code_of}
use Rattle.ix_run_text.specs.Inputs.{known_left}
use Rattle.ix_run_text.proofs.RowLemmas.{term_from_name, row_parts, tokens_refused, same_row}
use Rattle.ix_run_text.proofs.SpelledLemmas.{code_accepted}
use Rattle.ix_run_text.proofs.rows.read_row.Goals as goal

pub returns-in_err-name-clause-accepted : goal.returns-in_err-name-clause-accepted
returns-in_err-name-clause-accepted g c row rest name few e =
    let p = err_from_is_err_and c.from_residual.result c.from_residual.ensures.1 in
    rw (p.1, p.2) (c.in_err-name.ensures.accepted row.name (code_of row.tokens ++ rest) (term_from_name row.name name) (row_parts (known_left g.R.Read.remaining c.args.input.now) row rest e))

pub returns-in_err-tokens-clause-accepted : goal.returns-in_err-tokens-clause-accepted
returns-in_err-tokens-clause-accepted g c row rest name few e =
    let p = err_from_is_err_and c.from_residual-in_err-tokens.result c.from_residual-in_err-tokens.ensures.1 in
    let known = c.in_ok-name.ensures.accepted row.name (code_of row.tokens ++ rest) (term_from_name row.name name) (row_parts (known_left g.R.Read.remaining c.args.input.now) row rest e) in
    rw (p.1, p.2) (tokens_refused (known_left g.R.Read.remaining c.read_counted_text.new.input) row.tokens rest c.in_err-tokens.field-0.0 (omega arith) known.1 c.in_err-tokens.ensures.fault)

pub returns-then-tokens-before-clause-accepted : goal.returns-then-tokens-before-clause-accepted
returns-then-tokens-before-clause-accepted g c row rest name few e =
    let known = c.in_ok-name.ensures.accepted row.name (code_of row.tokens ++ rest) (term_from_name row.name name) (row_parts (known_left g.R.Read.remaining c.args.input.now) row rest e) in
    let same = code_accepted (known_left g.R.Read.remaining c.read_counted_text.new.input) (known_left g.R.Read.remaining c.code.new.self) rest c.in_ok-tokens.tokens row.tokens c.in_ok-tokens.ensures.taken known.1 in
    omega (arith, same.0, few, c.if-tokens-before.true, c.requires)

pub returns-clause-accepted : goal.returns-clause-accepted
returns-clause-accepted g c row rest name few e =
    let known = c.in_ok-name.ensures.accepted row.name (code_of row.tokens ++ rest) (term_from_name row.name name) (row_parts (known_left g.R.Read.remaining c.args.input.now) row rest e) in
    let same = code_accepted (known_left g.R.Read.remaining c.read_counted_text.new.input) (known_left g.R.Read.remaining c.code.new.self) rest c.in_ok-tokens.tokens row.tokens c.in_ok-tokens.ensures.taken known.1 in
    (same_row (string_bytes c.in_ok-name.name) c.in_ok-tokens.tokens row known.0 same.0, same.1)
