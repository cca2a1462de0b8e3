-- A term that stands first is the one that is read, and so is the end mark.
use Rattle.std.proofs.Common.{◌<◌, ◌^◌, ◌++◌, [], length, string_bytes, arith}
use Rattle.std.proofs.lemmas.Result.{err_from_is_err_and}
use Rattle.ix_vbyte.specs.Code.{code_of}
use Rattle.ix_run_text.specs.Inputs.{known_left}
use Rattle.ix_run_text.proofs.SpelledLemmas.{code_accepted, length_refused, number_accepted}
use Rattle.ix_run_text.proofs.TermLemmas.{end_mark_known, end_mark_taken, term_taken, whole_code_refused}
use Rattle.ix_run_text.proofs.term.read_term.Goals as goal

pub returns-in_err-size-clause-accepted : goal.returns-in_err-size-clause-accepted
returns-in_err-size-clause-accepted g c text documents bytes rest fits e =
    let p = err_from_is_err_and c.from_residual.result c.from_residual.ensures.1 in
    rw (p.1, p.2) (length_refused (known_left g.R.Read.remaining c.args.input.now) text (code_of documents ++ (code_of bytes ++ rest)) fits.text.is e 8 c.in_err-size.field-0.0 (omega arith) c.in_err-size.ensures.fault)

pub returns-in_err-size-clause-ended : goal.returns-in_err-size-clause-ended
returns-in_err-size-clause-ended g c e =
    let old = known_left g.R.Read.remaining c.args.input.now in
    let p = err_from_is_err_and c.from_residual.result c.from_residual.ensures.1 in
    rw (p.1, p.2) (whole_code_refused old [] 0 8 c.in_err-size.field-0.0 (omega arith) (omega arith) (end_mark_known old e) c.in_err-size.ensures.fault)

pub returns-in_err-check_end-clause-accepted : goal.returns-in_err-check_end-clause-accepted
returns-in_err-check_end-clause-accepted g c text documents bytes rest fits e =
    let few : length text < 2 ^ 32 = omega (arith, fits.text.is.short) in
    let known = number_accepted (known_left g.R.Read.remaining c.args.input.now) (length text) text (code_of documents ++ (code_of bytes ++ rest)) few e (known_left g.R.Read.remaining c.code.new.self) c.in_ok-size.size c.in_ok-size.ensures.taken in
    absurd (omega (arith, known.0, fits.text.is.some_byte, c.if-size-eq0.true))

pub returns-in_err-check_end-clause-ended : goal.returns-in_err-check_end-clause-ended
returns-in_err-check_end-clause-ended g c e =
    let old = known_left g.R.Read.remaining c.args.input.now in
    let known = code_accepted old (known_left g.R.Read.remaining c.code.new.self) [] c.in_ok-size.size 0 c.in_ok-size.ensures.taken (end_mark_known old e) in
    let p = err_from_is_err_and c.from_residual-in_err-check_end.result c.from_residual-in_err-check_end.ensures.1 in
    rw (p.1, p.2) (c.in_err-check_end.ensures.accepted known.1)

pub returns-then-size-eq0-clause-taken : goal.returns-then-size-eq0-clause-taken
returns-then-size-eq0-clause-taken g c =
    end_mark_taken (known_left g.R.Read.remaining c.args.input.now) (known_left g.R.Read.remaining c.code.new.self) (known_left g.R.Read.remaining c.check_end.new.input) c.in_ok-size.size c.if-size-eq0.true c.in_ok-size.ensures.taken c.in_ok-check_end.ensures.taken

pub returns-then-size-eq0-clause-accepted : goal.returns-then-size-eq0-clause-accepted
returns-then-size-eq0-clause-accepted g c text documents bytes rest fits e =
    let few : length text < 2 ^ 32 = omega (arith, fits.text.is.short) in
    let known = number_accepted (known_left g.R.Read.remaining c.args.input.now) (length text) text (code_of documents ++ (code_of bytes ++ rest)) few e (known_left g.R.Read.remaining c.code.new.self) c.in_ok-size.size c.in_ok-size.ensures.taken in
    omega (arith, known.0, fits.text.is.some_byte, c.if-size-eq0.true)

pub returns-in_err-read_text-clause-accepted : goal.returns-in_err-read_text-clause-accepted
returns-in_err-read_text-clause-accepted g c text documents bytes rest fits e =
    let few : length text < 2 ^ 32 = omega (arith, fits.text.is.short) in
    let known = number_accepted (known_left g.R.Read.remaining c.args.input.now) (length text) text (code_of documents ++ (code_of bytes ++ rest)) few e (known_left g.R.Read.remaining c.code.new.self) c.in_ok-size.size c.in_ok-size.ensures.taken in
    let p = err_from_is_err_and c.from_residual-in_err-read_text.result c.from_residual-in_err-read_text.ensures.1 in
    rw (p.1, p.2) (c.in_err-read_text.ensures.accepted text (code_of documents ++ (code_of bytes ++ rest)) fits.text known.0 known.1)

pub returns-in_err-read_text-clause-ended : goal.returns-in_err-read_text-clause-ended
returns-in_err-read_text-clause-ended g c e =
    let old = known_left g.R.Read.remaining c.args.input.now in
    let known = code_accepted old (known_left g.R.Read.remaining c.code.new.self) [] c.in_ok-size.size 0 c.in_ok-size.ensures.taken (end_mark_known old e) in
    absurd (omega (arith, known.0, c.if-size-eq0.false))

pub returns-in_err-counts-clause-accepted : goal.returns-in_err-counts-clause-accepted
returns-in_err-counts-clause-accepted g c text documents bytes rest fits e =
    let few : length text < 2 ^ 32 = omega (arith, fits.text.is.short) in
    let known = number_accepted (known_left g.R.Read.remaining c.args.input.now) (length text) text (code_of documents ++ (code_of bytes ++ rest)) few e (known_left g.R.Read.remaining c.code.new.self) c.in_ok-size.size c.in_ok-size.ensures.taken in
    let more = c.in_ok-read_text.ensures.accepted text (code_of documents ++ (code_of bytes ++ rest)) fits.text known.0 known.1 in
    let p = err_from_is_err_and c.from_residual-in_err-counts.result c.from_residual-in_err-counts.ensures.1 in
    rw (p.1, p.2) (c.in_err-counts.ensures.accepted documents bytes rest fits.some fits.documents_fit fits.bytes_fit more.1)

pub returns-in_err-counts-clause-ended : goal.returns-in_err-counts-clause-ended
returns-in_err-counts-clause-ended g c e =
    let old = known_left g.R.Read.remaining c.args.input.now in
    let known = code_accepted old (known_left g.R.Read.remaining c.code.new.self) [] c.in_ok-size.size 0 c.in_ok-size.ensures.taken (end_mark_known old e) in
    absurd (omega (arith, known.0, c.if-size-eq0.false))

pub returns-clause-taken : goal.returns-clause-taken
returns-clause-taken g c =
    term_taken (known_left g.R.Read.remaining c.args.input.now) (known_left g.R.Read.remaining c.code.new.self) (known_left g.R.Read.remaining c.read_text.new.input) (known_left g.R.Read.remaining c.read_counts.new.input)
    c.in_ok-size.size c.in_ok-counts.counts.documents c.in_ok-counts.counts.bytes (string_bytes c.read_text.new.term) c.in_ok-read_text.ensures.size c.in_ok-size.ensures.taken c.in_ok-read_text.ensures.taken c.in_ok-counts.ensures.taken

pub returns-clause-accepted : goal.returns-clause-accepted
returns-clause-accepted g c text documents bytes rest fits e =
    let few : length text < 2 ^ 32 = omega (arith, fits.text.is.short) in
    let known = number_accepted (known_left g.R.Read.remaining c.args.input.now) (length text) text (code_of documents ++ (code_of bytes ++ rest)) few e (known_left g.R.Read.remaining c.code.new.self) c.in_ok-size.size c.in_ok-size.ensures.taken in
    let more = c.in_ok-read_text.ensures.accepted text (code_of documents ++ (code_of bytes ++ rest)) fits.text known.0 known.1 in
    let last = c.in_ok-counts.ensures.accepted documents bytes rest fits.some fits.documents_fit fits.bytes_fit more.1 in
    (more.0, last.0, last.1, last.2)

pub returns-clause-ended : goal.returns-clause-ended
returns-clause-ended g c e =
    let old = known_left g.R.Read.remaining c.args.input.now in
    let known = code_accepted old (known_left g.R.Read.remaining c.code.new.self) [] c.in_ok-size.size 0 c.in_ok-size.ensures.taken (end_mark_known old e) in
    absurd (omega (arith, known.0, c.if-size-eq0.false))
