-- A term that stands first and may come next is the one that is read.
use Rattle.std.proofs.Common.{◌≡◌, ℕ, List, string_bytes, subst, sym, ◌∙◌}
use Rattle.ix_run_text.specs.Inputs.{known_left}
use Rattle.ix_run_text.specs.ReadTerms.{TextFits}
use Rattle.ix_run_text.proofs.SpelledLemmas.{text_accepted}
use Rattle.ix_run_text.proofs.TermLemmas.{done_or_refused}
use Rattle.ix_run_text.proofs.term.read_text.Goals as goal

pub returns-clause-accepted : goal.returns-clause-accepted
returns-clause-accepted g c text rest fits size e =
    let known = text_accepted (known_left g.R.Read.remaining c.args.input.now) (known_left g.R.Read.remaining c.take.new.self) c.take.new.out.items text rest c.in_ok-take.ensures.taken (c.in_ok-take.ensures.size ∙ size) e in
    let is : c.deref.result.now ≡ text = c.deref.ensures.value ∙ known.0 in
    done_or_refused c.set_term.result c.set_term.ensures.set
    (c.set_term.ensures.accepted (subst (λ (term : List ℕ). TextFits c.args.stop.now (string_bytes c.args.term.now) term) (sym is) fits))
    (λ set. (set ∙ is, known.1))
