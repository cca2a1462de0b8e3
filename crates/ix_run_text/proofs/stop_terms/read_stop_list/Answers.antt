-- A stop set that stands first is the one that is read.
use Rattle.std.proofs.Common.{◌≡◌, ◌<◌, ◌^◌, ◌∙◌, length, flat_map, map, string_bytes, sym, arith}
use Rattle.std.proofs.lemmas.List.{length-map}
use Rattle.std.proofs.lemmas.Result.{err_from_is_err_and}
use Rattle.ix_vbyte.specs.Texts.{counted}
use Rattle.ix_run_text.specs.Inputs.{known_left}
use Rattle.ix_run_text.specs.Pieces.{StopTermFits}
use Rattle.ix_run_text.proofs.PieceLemmas.{pieces_all}
use Rattle.ix_run_text.proofs.SpelledLemmas.{number_refused, number_accepted}
use Rattle.ix_run_text.proofs.StopTermLemmas.{ascending_from_fits, fits_from_stop_set}
use Rattle.ix_run_text.proofs.stop_terms.read_stop_list.Goals as goal

pub returns-in_err-count-clause-accepted : goal.returns-in_err-count-clause-accepted
returns-in_err-count-clause-accepted g c stop rest set e =
    let p = err_from_is_err_and c.from_residual.result c.from_residual.ensures.1 in
    let fits : length stop < 2 ^ 32 = omega (arith, set.few) in
    rw (p.1, p.2) (number_refused (known_left g.R.Read.remaining c.args.input.now) (length stop) (flat_map counted stop) rest fits e 8 c.in_err-count.field-0.0 (omega arith) c.in_err-count.ensures.fault)

pub returns-then-count-gt-MAX_STOP_TERMS-clause-accepted : goal.returns-then-count-gt-MAX_STOP_TERMS-clause-accepted
returns-then-count-gt-MAX_STOP_TERMS-clause-accepted g c stop rest set e =
    let fits : length stop < 2 ^ 32 = omega (arith, set.few) in
    let known = number_accepted (known_left g.R.Read.remaining c.args.input.now) (length stop) (flat_map counted stop) rest fits e (known_left g.R.Read.remaining c.code.new.self) c.in_ok-count.count c.in_ok-count.ensures.taken in
    omega (arith, known.0, set.few, c.if-count-gt-MAX_STOP_TERMS.true)

pub returns-in_err-terms-clause-accepted : goal.returns-in_err-terms-clause-accepted
returns-in_err-terms-clause-accepted g c stop rest set e =
    let fits : length stop < 2 ^ 32 = omega (arith, set.few) in
    let known = number_accepted (known_left g.R.Read.remaining c.args.input.now) (length stop) (flat_map counted stop) rest fits e (known_left g.R.Read.remaining c.code.new.self) c.in_ok-count.count c.in_ok-count.ensures.taken in
    let p = err_from_is_err_and c.from_residual-in_err-terms.result c.from_residual-in_err-terms.ensures.1 in
    rw (p.1, p.2) (c.in_err-terms.ensures.refused stop rest (sym known.0) (fits_from_stop_set stop set) known.1)

pub from_sorted-requires-clause-ascending : goal.from_sorted-requires-clause-ascending
from_sorted-requires-clause-ascending g c = ascending_from_fits (map string_bytes c.in_ok-terms.terms.items) c.in_ok-terms.ensures.read.fits

pub returns-clause-accepted : goal.returns-clause-accepted
returns-clause-accepted g c stop rest set e =
    let fits : length stop < 2 ^ 32 = omega (arith, set.few) in
    let middle = known_left g.R.Read.remaining c.code.new.self in
    let known = number_accepted (known_left g.R.Read.remaining c.args.input.now) (length stop) (flat_map counted stop) rest fits e middle c.in_ok-count.count c.in_ok-count.ensures.taken in
    let terms = map string_bytes c.in_ok-terms.terms.items in
    let full : length terms ≡ c.in_ok-count.count = omega (arith, length-map c.in_ok-terms.terms.items string_bytes, c.in_ok-terms.ensures.all) in
    let all = pieces_all counted StopTermFits middle (known_left g.R.Read.remaining c.read_stop_terms.new.input) terms c.in_ok-count.count c.in_ok-terms.ensures.read full stop rest (sym known.0) (fits_from_stop_set stop set) known.1 in
    (c.from_sorted.ensures ∙ all.0, all.1)
