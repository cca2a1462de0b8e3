-- One document more, or why there is none.
use Rattle.std.proofs.Common.{◌≡◌, ◌<◌, ◌∙◌, ◌∷◌, ◌++◌, [], map, length, ap, arith}
use Rattle.std.proofs.lemmas.List.{map_push, length-map}
use Rattle.std.proofs.lemmas.List.Sums.{sum_by_push}
use Rattle.std.proofs.lemmas.Result.{err_from_is_err_and}
use Rattle.ix_text.specs.Parts.{row_bytes}
use Rattle.ix_vbyte.specs.Code.{code_of}
use Rattle.ix_run_text.specs.Heads.{row_of_doc}
use Rattle.ix_run_text.specs.Inputs.{known_left}
use Rattle.ix_run_text.specs.Pieces.{RowFits}
use Rattle.ix_run_text.proofs.PieceLemmas.{pieces_more, pieces_refused}
use Rattle.ix_run_text.proofs.rows.read_rows.Goals as goal

pub returns-in_err-doc-clause-refused : goal.returns-in_err-doc-clause-refused
returns-in_err-doc-clause-refused g c =
    let loop = c.loop in
    let p = err_from_is_err_and c.from_residual.result c.from_residual.ensures.1 in
    let read = map row_of_doc loop.docs.items in
    let few : length read < c.args.count = omega (arith, length-map loop.docs.items row_of_doc, loop.invariant.size) in
    rw (p.1, p.2)
    (pieces_refused (row_bytes code_of) RowFits (known_left g.R.Read.remaining c.args.input.now) (known_left g.R.Read.remaining loop.input) read c.args.count loop.invariant.read few c.in_err-doc.field-0.0
    (λ other rest fits e. c.in_err-doc.ensures.accepted other rest fits.name (omega (arith, fits.few, loop.invariant.tokens)) e))

pub loop-preserved : goal.loop-preserved
loop-preserved g c =
    let loop = c.loop in
    let doc = c.in_ok-doc.doc in
    let read = map row_of_doc loop.docs.items in
    let few : length read < c.args.count = omega (arith, length-map loop.docs.items row_of_doc, loop.invariant.size) in
    let items : map row_of_doc c.push.new.self.items ≡ read ++ row_of_doc doc ∷ [] = ap (map row_of_doc) c.in_ok-push.ensures.items ∙ map_push row_of_doc loop.docs.items doc in
    record {
      read = rw items (pieces_more (row_bytes code_of) RowFits (known_left g.R.Read.remaining c.args.input.now) (known_left g.R.Read.remaining loop.input) read c.args.count loop.invariant.read few
          (known_left g.R.Read.remaining c.read_row.new.input) (row_of_doc doc) c.in_ok-doc.ensures.taken (record { name = c.in_ok-doc.ensures.name; few = omega (arith, loop.invariant.tokens, c.in_ok-doc.ensures.few) })
          (λ other rest fits e. c.in_ok-doc.ensures.accepted other rest fits.name (omega (arith, fits.few, loop.invariant.tokens)) e));
      size = omega (arith, c.in_ok-push.ensures.len, loop.invariant.size, c.push.new.self.ok.0, loop.docs.ok.0);
      tokens = rw items (omega (arith, loop.invariant.tokens, sum_by_push (λ row. row.tokens) read (row_of_doc doc)));
      few = omega (arith, c.in_ok-doc.ensures.few);
    }
