-- One term more, or why there is none.
use Rattle.std.proofs.Common.{◌≡◌, ◌<◌, ◌∙◌, ◌∷◌, ◌++◌, [], map, length, string_bytes, ap, arith}
use Rattle.std.proofs.lemmas.List.{map_push, length-map}
use Rattle.std.proofs.lemmas.Result.{err_from_is_err_and}
use Rattle.ix_vbyte.specs.Texts.{counted}
use Rattle.ix_run_text.specs.Inputs.{known_left}
use Rattle.ix_run_text.specs.Pieces.{StopTermFits}
use Rattle.ix_run_text.proofs.PieceLemmas.{pieces_more, pieces_refused}
use Rattle.ix_run_text.proofs.stop_terms.read_stop_terms.Goals as goal

pub returns-in_err-term-clause-refused : goal.returns-in_err-term-clause-refused
returns-in_err-term-clause-refused g c =
    let loop = c.loop in
    let p = err_from_is_err_and c.from_residual.result c.from_residual.ensures.1 in
    let read = map string_bytes loop.terms.items in
    let few : length read < c.args.count = omega (arith, length-map loop.terms.items string_bytes, loop.invariant.size) in
    rw (p.1, p.2)
    (pieces_refused counted StopTermFits (known_left g.R.Read.remaining c.args.input.now) (known_left g.R.Read.remaining loop.input) read c.args.count loop.invariant.read few c.in_err-term.field-0.0
    (rw c.deref.ensures.value at c.in_err-term.ensures.accepted))

pub loop-preserved : goal.loop-preserved
loop-preserved g c =
    let loop = c.loop in
    let read = map string_bytes loop.terms.items in
    let few : length read < c.args.count = omega (arith, length-map loop.terms.items string_bytes, loop.invariant.size) in
    let items : map string_bytes c.push.new.self.items ≡ read ++ string_bytes c.in_ok-term.term ∷ [] = ap (map string_bytes) c.in_ok-push.ensures.items ∙ map_push string_bytes loop.terms.items c.in_ok-term.term in
    record {
      read = rw items (pieces_more counted StopTermFits (known_left g.R.Read.remaining c.args.input.now) (known_left g.R.Read.remaining loop.input) read c.args.count loop.invariant.read few
          (known_left g.R.Read.remaining c.stop_term.new.input) (string_bytes c.in_ok-term.term) c.in_ok-term.ensures.taken (rw c.deref.ensures.value at c.in_ok-term.ensures.fits)
          (rw c.deref.ensures.value at c.in_ok-term.ensures.accepted));
      size = omega (arith, c.in_ok-push.ensures.len, loop.invariant.size, c.push.new.self.ok.0, loop.terms.ok.0);
    }
