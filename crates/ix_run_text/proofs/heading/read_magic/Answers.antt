-- The bytes that stand first are told from all others.
use Rattle.std.proofs.Common.{◌≡◌, ◌∙◌, sym}
use Rattle.std.proofs.lemmas.Bool.{false≢true}
use Rattle.std.specs.Prelude.{codes}
use Rattle.ix_run_text.specs.Inputs.{known_left}
use Rattle.ix_run_text.proofs.SpelledLemmas.{text_accepted}
use Rattle.ix_run_text.proofs.heading.read_magic.Goals as goal

pub returns-then-ne-clause-accepted : goal.returns-then-ne-clause-accepted
returns-then-ne-clause-accepted g c rest e =
    let known = text_accepted (known_left g.R.Read.remaining c.args.input.now) (known_left g.R.Read.remaining c.take.new.self) c.take.new.out.items (codes "PIIXRUN1") rest c.in-Ok.ensures.taken c.in-Ok.ensures.size e in
    let one : c.as_slice.result.now ≡ codes "PIIXRUN1" = c.as_slice.ensures.value ∙ known.0 in
    let two : c.as_slice-2.result.now ≡ codes "PIIXRUN1" = c.as_slice-2.ensures in
    false≢true (sym (rw (one, two) at c.ne.ensures) ∙ c.if-ne.true)
