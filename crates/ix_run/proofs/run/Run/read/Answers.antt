-- What the reader yielded as a whole is the run's dictionary: the bytes spell it, and it is all that they spell.
use Rattle.std.proofs.Common.{◌≡◌, [], None, ap, sym, subst, ◌∙◌}
use Rattle.std.proofs.lemmas.Result.{err_from_is_err_and}
use Rattle.ix_run_text.specs.Heads.{Heading, heading_of, parts_with}
use Rattle.ix_run_text.specs.RunText.{run_layout}
use Rattle.ix_run.specs.Runs.{IsRunOf, RunValue, head_value, run_bytes}
use Rattle.ix_run_text.specs.Sources.{AreWhole}
use Rattle.ix_run.proofs.RunFiles.{is_run, run_accepted, run_exact}
use Rattle.ix_run.proofs.run.Run.read.Goals as goal

pub returns-in_err-reader-clause-accepted : goal.returns-in_err-reader-clause-accepted
returns-in_err-reader-clause-accepted g c first collection bytes is known =
    let p = err_from_is_err_and c.from_residual.result c.from_residual.ensures.1 in
    rw (p.1, p.2) (c.in_err-reader.ensures.faced first collection bytes is known)

pub returns-in_err-terms-clause-accepted : goal.returns-in_err-terms-clause-accepted
returns-in_err-terms-clause-accepted g c first collection bytes is known =
    let p = err_from_is_err_and c.from_residual-in_err-terms.result c.from_residual-in_err-terms.ensures.1 in
    let faced = c.in_ok-reader.ensures.faced first collection bytes is known in
    rw (p.1, p.2) (c.in_err-terms.ensures.refused is.parts.entries faced.1)

pub new-requires : goal.new-requires
new-requires g c =
    let read = c.in_ok-terms.ensures.read in
    let same : heading_of c.into_head.result ≡ heading_of c.in_ok-reader.reader.head = c.into_head.ensures ∙ c.in_ok-terms.ensures.heading in
    is_run (head_value c.into_head.result c.in_ok-terms.terms) read.entries read.told
    (subst (λ (h : Heading). AreWhole h read.entries) (sym same) (read.yielded.whole [] None c.in_ok-reader.ensures.unread))

pub returns-clause-exact : goal.returns-clause-exact
returns-clause-exact g c bytes known =
    let read = c.in_ok-terms.ensures.read in
    let same : heading_of c.into_head.result ≡ heading_of c.in_ok-reader.reader.head = c.into_head.ensures ∙ c.in_ok-terms.ensures.heading in
    let P : Heading → Type 0 = λ h. bytes ≡ run_layout h.first (parts_with h read.entries) in
    ap run_bytes c.new.ensures
    ∙ run_exact (head_value c.into_head.result c.in_ok-terms.terms) read.entries read.told bytes
    (subst P (sym same) (c.in_ok-reader.ensures.yields bytes read.entries known read.yielded).0)

pub returns-clause-accepted : goal.returns-clause-accepted
returns-clause-accepted g c first collection bytes is known =
    let read = c.in_ok-terms.ensures.read in
    let faced = c.in_ok-reader.ensures.faced first collection bytes is known in
    let same : heading_of c.into_head.result ≡ heading_of c.in_ok-reader.reader.head = c.into_head.ensures ∙ c.in_ok-terms.ensures.heading in
    subst (λ (run : RunValue). IsRunOf run first collection) (sym c.new.ensures)
    (run_accepted (head_value c.into_head.result c.in_ok-terms.terms) read.entries read.told first collection bytes is (same ∙ faced.0) (read.accepted is.parts.entries faced.1))
