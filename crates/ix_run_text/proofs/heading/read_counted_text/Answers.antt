-- A text behind the code of its length, where such a text stands first.
use Rattle.std.proofs.Common.{◌≡◌, ℕ, length, string_bytes, arith, inl, inr, subst, sym, ap, ◌∙◌}
use Rattle.std.proofs.lemmas.Str.{IsUtf8-string_bytes}
use Rattle.std.proofs.lemmas.Bool.{false≢true}
use Rattle.std.specs.Global.{Vec}
use Rattle.std.proofs.lemmas.Result.{err_from_is_err_and}
use Rattle.std.specs.Prelude.{IsUtf8}
use Rattle.ix_run_text.specs.Inputs.{known_left}
use Rattle.ix_run_text.proofs.SpelledLemmas.{length_refused, length_in_range, bytes_refused, bytes_accepted}
use Rattle.ix_run_text.proofs.heading.read_counted_text.Goals.{then-length-eq0-via-then-length-eq0, then-length-eq0-via-else-length-eq0+then-length-gt-MAX_TERM_BYTES}
use Rattle.ix_run_text.proofs.heading.read_counted_text.Goals as goal

pub returns-in_err-length-clause-accepted : goal.returns-in_err-length-clause-accepted
returns-in_err-length-clause-accepted g c text rest term e =
    let p = err_from_is_err_and c.from_residual.result c.from_residual.ensures.1 in
    rw (p.1, p.2) (length_refused (known_left g.R.Read.remaining c.args.input.now) text rest term e 8 c.in_err-length.field-0.0 (omega arith) c.in_err-length.ensures.fault)

pub returns-then-length-eq0-clause-accepted : goal.returns-then-length-eq0-clause-accepted
returns-then-length-eq0-clause-accepted g c text rest term e =
    let old = known_left g.R.Read.remaining c.args.input.now in
    let new = known_left g.R.Read.remaining c.code.new.self in
    absurd (length_in_range old text rest term e new c.in_ok-length.length c.in_ok-length.ensures.taken
    (elim c.then-length-eq0.branch [
      | then-length-eq0-via-then-length-eq0 w ↦ inl w.if-length-eq0.true
      | then-length-eq0-via-else-length-eq0+then-length-gt-MAX_TERM_BYTES w ↦ inr w.if-length-gt-MAX_TERM_BYTES.true
    ]))

pub returns-in_err-take-clause-accepted : goal.returns-in_err-take-clause-accepted
returns-in_err-take-clause-accepted g c text rest term e =
    let old = known_left g.R.Read.remaining c.args.input.now in
    let new = known_left g.R.Read.remaining c.code.new.self in
    let p = err_from_is_err_and c.from_residual-in_err-take.result c.from_residual-in_err-take.ensures.1 in
    rw (p.1, p.2) (bytes_refused old text rest term e new c.in_ok-length.length c.in_err-take.field-0.0 c.in_ok-length.ensures.taken c.in_err-take.ensures.fault)

pub returns-in-Ok-clause-term : goal.returns-in-Ok-clause-term
returns-in-Ok-clause-term g c =
    let len : length (string_bytes c.in-Ok.text) ≡ length c.take.new.out.items = ap (λ (v : Vec ℕ). length v.items) c.in-Ok.ensures.ok in
    record {
      text = IsUtf8-string_bytes c.in-Ok.text;
      some_byte = omega (arith, len, c.in_ok-take.ensures.size);
      short = omega (arith, len, c.in_ok-take.ensures.size);
    }

pub returns-in-Ok-clause-accepted : goal.returns-in-Ok-clause-accepted
returns-in-Ok-clause-accepted g c text rest term e =
    let old = known_left g.R.Read.remaining c.args.input.now in
    let new = known_left g.R.Read.remaining c.code.new.self in
    let last = known_left g.R.Read.remaining c.take.new.self in
    let known = bytes_accepted old text rest term e new last c.in_ok-length.length c.take.new.out.items c.in_ok-length.ensures.taken c.in_ok-take.ensures.taken c.in_ok-take.ensures.size in
    (ap (λ (v : Vec ℕ). v.items) c.in-Ok.ensures.ok ∙ known.0, known.1)

pub returns-clause-accepted : goal.returns-clause-accepted
returns-clause-accepted g c text rest term e =
    let old = known_left g.R.Read.remaining c.args.input.now in
    let new = known_left g.R.Read.remaining c.code.new.self in
    let last = known_left g.R.Read.remaining c.take.new.self in
    let known = bytes_accepted old text rest term e new last c.in_ok-length.length c.take.new.out.items c.in_ok-length.ensures.taken c.in_ok-take.ensures.taken c.in_ok-take.ensures.size in
    let is_text : IsUtf8 c.take.new.out.items = subst IsUtf8 (sym known.0) term.text in
    false≢true (c.in-Err.ensures.succeeds is_text)
