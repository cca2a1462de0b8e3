-- A head that stands first is the one that is read.
use Rattle.std.proofs.Common.{◌≡◌, ◌<◌, ◌^◌, ℕ, length, map, sym, subst, arith}
use Rattle.std.proofs.lemmas.List.{length-map}
use Rattle.std.proofs.lemmas.Result.{err_from_is_err_and}
use Rattle.std.specs.Int.{to_le_bytes, w32}
use Rattle.std.specs.Io.KnownBytes.{Consumes}
use Rattle.ix_text.specs.Parts.{row_bytes}
use Rattle.ix_vbyte.specs.Code.{code_of}
use Rattle.ix_run_text.specs.Heads.{Heading, IsLawfulHeading, row_of_doc}
use Rattle.ix_run_text.specs.Inputs.{known_left}
use Rattle.ix_run_text.specs.Pieces.{RowFits}
use Rattle.ix_run_text.proofs.HeadLemmas.{after_magic, after_first, after_numbers, after_stop, known_parts, head_taken, same_heading, fits_from_rows, names_from_fits, few_from_fits}
use Rattle.ix_run_text.proofs.PieceLemmas.{pieces_all}
use Rattle.ix_run_text.proofs.heading.read_head.Goals as goal

few_first : (heading : Heading) → IsLawfulHeading heading → heading.first < 2 ^ 32
few_first heading lawful = omega (arith, lawful.few_documents)

few_rows : (heading : Heading) → IsLawfulHeading heading → length heading.rows < 2 ^ 32
few_rows heading lawful = omega (arith, lawful.few_documents)

pub returns-in_err-read_magic-clause-accepted : goal.returns-in_err-read_magic-clause-accepted
returns-in_err-read_magic-clause-accepted g c heading rest lawful e =
    let p = err_from_is_err_and c.from_residual.result c.from_residual.ensures.1 in
    rw (p.1, p.2) (c.in_err-read_magic.ensures.accepted (after_magic heading rest) (known_parts (known_left g.R.Read.remaining c.args.input.now) heading rest e))

pub returns-in_err-first-clause-accepted : goal.returns-in_err-first-clause-accepted
returns-in_err-first-clause-accepted g c heading rest lawful e =
    let p = err_from_is_err_and c.from_residual-in_err-first.result c.from_residual-in_err-first.ensures.1 in
    let one = c.in_ok-read_magic.ensures.accepted (after_magic heading rest) (known_parts (known_left g.R.Read.remaining c.args.input.now) heading rest e) in
    rw (p.1, p.2) (c.in_err-first.ensures.accepted heading.first (after_first heading rest) (few_first heading lawful) one)

pub returns-in_err-count-clause-accepted : goal.returns-in_err-count-clause-accepted
returns-in_err-count-clause-accepted g c heading rest lawful e =
    let p = err_from_is_err_and c.from_residual-in_err-count.result c.from_residual-in_err-count.ensures.1 in
    let one = c.in_ok-read_magic.ensures.accepted (after_magic heading rest) (known_parts (known_left g.R.Read.remaining c.args.input.now) heading rest e) in
    let two = c.in_ok-first.ensures.accepted heading.first (after_first heading rest) (few_first heading lawful) one in
    rw (p.1, p.2) (c.in_err-count.ensures.accepted (length heading.rows) (after_numbers heading rest) (few_rows heading lawful) two.1)

pub returns-then-from-clause-accepted : goal.returns-then-from-clause-accepted
returns-then-from-clause-accepted g c heading rest lawful e =
    let one = c.in_ok-read_magic.ensures.accepted (after_magic heading rest) (known_parts (known_left g.R.Read.remaining c.args.input.now) heading rest e) in
    let two = c.in_ok-first.ensures.accepted heading.first (after_first heading rest) (few_first heading lawful) one in
    let three = c.in_ok-count.ensures.accepted (length heading.rows) (after_numbers heading rest) (few_rows heading lawful) two.1 in
    omega (arith, c.if-from.true, two.0, three.0, lawful.few_documents, c.from.ensures, c.from-2.ensures)

pub returns-in_err-stop-clause-accepted : goal.returns-in_err-stop-clause-accepted
returns-in_err-stop-clause-accepted g c heading rest lawful e =
    let p = err_from_is_err_and c.from_residual-in_err-stop.result c.from_residual-in_err-stop.ensures.1 in
    let one = c.in_ok-read_magic.ensures.accepted (after_magic heading rest) (known_parts (known_left g.R.Read.remaining c.args.input.now) heading rest e) in
    let two = c.in_ok-first.ensures.accepted heading.first (after_first heading rest) (few_first heading lawful) one in
    let three = c.in_ok-count.ensures.accepted (length heading.rows) (after_numbers heading rest) (few_rows heading lawful) two.1 in
    rw (p.1, p.2) (c.in_err-stop.ensures.accepted heading.stop (after_stop heading rest) lawful.stop three.1)

pub returns-in_err-docs-clause-accepted : goal.returns-in_err-docs-clause-accepted
returns-in_err-docs-clause-accepted g c heading rest lawful e =
    let p = err_from_is_err_and c.from_residual-in_err-docs.result c.from_residual-in_err-docs.ensures.1 in
    let one = c.in_ok-read_magic.ensures.accepted (after_magic heading rest) (known_parts (known_left g.R.Read.remaining c.args.input.now) heading rest e) in
    let two = c.in_ok-first.ensures.accepted heading.first (after_first heading rest) (few_first heading lawful) one in
    let three = c.in_ok-count.ensures.accepted (length heading.rows) (after_numbers heading rest) (few_rows heading lawful) two.1 in
    let four = c.in_ok-stop.ensures.accepted heading.stop (after_stop heading rest) lawful.stop three.1 in
    rw (p.1, p.2) (c.in_err-docs.ensures.refused heading.rows rest (sym three.0) (fits_from_rows heading.rows lawful.names lawful.few_tokens) four.1)

pub returns-clause-taken : goal.returns-clause-taken
returns-clause-taken g c =
    let rows = map row_of_doc c.in_ok-docs.docs.items in
    let heading : Heading = record { first = c.in_ok-first.first; stop = c.in_ok-stop.stop; rows = rows } in
    let full : c.in_ok-count.count ≡ length rows = omega (arith, length-map c.in_ok-docs.docs.items row_of_doc, c.in_ok-docs.ensures.all) in
    let old = known_left g.R.Read.remaining c.args.input.now in
    let one = known_left g.R.Read.remaining c.read_magic.new.input in
    let two = known_left g.R.Read.remaining c.read_fixed.new.input in
    let three = known_left g.R.Read.remaining c.read_fixed-2.new.input in
    let four = known_left g.R.Read.remaining c.read_stop_list.new.input in
    let last = known_left g.R.Read.remaining c.read_rows.new.input in
    let counted = subst (λ (n : ℕ). Consumes two three (to_le_bytes w32 n)) full c.in_ok-count.ensures.taken in
    head_taken old one two three four last heading c.in_ok-read_magic.ensures.taken c.in_ok-first.ensures.taken counted c.in_ok-stop.ensures.taken c.in_ok-docs.ensures.read.taken

pub returns-clause-lawful : goal.returns-clause-lawful
returns-clause-lawful g c =
    let rows = map row_of_doc c.in_ok-docs.docs.items in
    record {
      stop = c.in_ok-stop.ensures.lawful;
      names = names_from_fits rows c.in_ok-docs.ensures.read.fits;
      few_tokens = few_from_fits rows c.in_ok-docs.ensures.read.fits;
      few_documents = omega (arith, length-map c.in_ok-docs.docs.items row_of_doc, c.in_ok-docs.ensures.all, c.if-from.false, c.from.ensures, c.from-2.ensures);
    }

pub returns-clause-accepted : goal.returns-clause-accepted
returns-clause-accepted g c heading rest lawful e =
    let one = c.in_ok-read_magic.ensures.accepted (after_magic heading rest) (known_parts (known_left g.R.Read.remaining c.args.input.now) heading rest e) in
    let two = c.in_ok-first.ensures.accepted heading.first (after_first heading rest) (few_first heading lawful) one in
    let three = c.in_ok-count.ensures.accepted (length heading.rows) (after_numbers heading rest) (few_rows heading lawful) two.1 in
    let four = c.in_ok-stop.ensures.accepted heading.stop (after_stop heading rest) lawful.stop three.1 in
    let rows = map row_of_doc c.in_ok-docs.docs.items in
    let full : length rows ≡ c.in_ok-count.count = omega (arith, length-map c.in_ok-docs.docs.items row_of_doc, c.in_ok-docs.ensures.all) in
    let five = pieces_all (row_bytes code_of) RowFits (known_left g.R.Read.remaining c.read_stop_list.new.input) (known_left g.R.Read.remaining c.read_rows.new.input) rows c.in_ok-count.count c.in_ok-docs.ensures.read full
    heading.rows rest (sym three.0) (fits_from_rows heading.rows lawful.names lawful.few_tokens) four.1 in
    (same_heading c.in_ok-first.first c.in_ok-stop.stop rows heading two.0 four.0 five.0, five.1)
