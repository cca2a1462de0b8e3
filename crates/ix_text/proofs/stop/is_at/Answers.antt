use Rattle.std.proofs.Common.{◌∙◌, ap, arith, get_or, string_bytes}
use Rattle.ix_text.proofs.StopSlotLemmas.{is_past, is_there}
use Rattle.ix_text.proofs.stop.is_at.Goals as goal

pub returns-then-place-terms : goal.returns-then-place-terms
returns-then-place-terms c =
    let terms = c.args.terms.now in
    let held = c.index-terms-place.result in
    is_there string_bytes terms c.args.place held c.as_str.result.now c.args.term.now c.eq.result (omega arith)
    (c.index-terms-place.is ∙ ap (λ n. get_or terms n held) c.from-place.ensures) c.as_str.ensures.value c.eq.ensures

pub returns-else-place-terms : goal.returns-else-place-terms
returns-else-place-terms c = is_past string_bytes c.args.terms.now c.args.place c.args.term.now (omega arith)
