-- Two codes that stand first are the ones that are read.
use Rattle.std.proofs.Common.{◌≤◌, ◌++◌, length, arith}
use Rattle.std.proofs.lemmas.Result.{err_from_is_err_and}
use Rattle.ix_vbyte.specs.Code.{code_of}
use Rattle.ix_vbyte.proofs.Values.{length-code_of}
use Rattle.ix_run_text.specs.Inputs.{known_left}
use Rattle.ix_run_text.proofs.SpelledLemmas.{code_accepted}
use Rattle.ix_run_text.proofs.TermLemmas.{whole_code_refused}
use Rattle.ix_run_text.proofs.term.read_counts.Goals as goal

pub returns-in_err-documents-clause-accepted : goal.returns-in_err-documents-clause-accepted
returns-in_err-documents-clause-accepted g c documents bytes rest some fits other e =
    let p = err_from_is_err_and c.from_residual.result c.from_residual.ensures.1 in
    let short : length (code_of documents) ≤ 8 = omega (arith, length-code_of documents fits) in
    rw (p.1, p.2) (c.in_err-documents.ensures.accepted documents (code_of bytes ++ rest) some fits short e)

pub returns-in_err-bytes-clause-accepted : goal.returns-in_err-bytes-clause-accepted
returns-in_err-bytes-clause-accepted g c documents bytes rest some fits other e =
    let p = err_from_is_err_and c.from_residual-in_err-bytes.result c.from_residual-in_err-bytes.ensures.1 in
    let short : length (code_of documents) ≤ 8 = omega (arith, length-code_of documents fits) in
    let known = c.in_ok-documents.ensures.accepted documents (code_of bytes ++ rest) some fits short e in
    rw (p.1, p.2) (whole_code_refused (known_left g.R.Read.remaining c.read_positive.new.input) rest bytes 8 c.in_err-bytes.field-0.0 other (omega arith) known.1 c.in_err-bytes.ensures.fault)

pub returns-clause-accepted : goal.returns-clause-accepted
returns-clause-accepted g c documents bytes rest some fits other e =
    let short : length (code_of documents) ≤ 8 = omega (arith, length-code_of documents fits) in
    let known = c.in_ok-documents.ensures.accepted documents (code_of bytes ++ rest) some fits short e in
    let more = code_accepted (known_left g.R.Read.remaining c.read_positive.new.input) (known_left g.R.Read.remaining c.code.new.self) rest c.in_ok-bytes.bytes bytes c.in_ok-bytes.ensures.taken known.1 in
    (known.0, more.0, more.1)
