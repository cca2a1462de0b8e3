use Rattle.std.proofs.Common.{length, sym, ◌∙◌, ap}
use Rattle.std.proofs.Math.Nat.{sub-zero}
use Rattle.ix_text.proofs.WindowLemmas.{trigrams-none, trigrams-one, trigrams-two, trigrams-first, window_boundary}
use Rattle.ix_text.proofs.windows.first_window.Goals as goal

pub returns-in_err-next-clause-none : goal.returns-in_err-next-clause-none
returns-in_err-next-clause-none c =
    rw c.from_residual.ensures (trigrams-none c.args.text.now (ap length (sym c.chars-chars.ensures.rest) ∙ c.in_err-next.ensures.steps.0.0))

pub returns-in_err-next-2-clause-none : goal.returns-in_err-next-2-clause-none
returns-in_err-next-2-clause-none c =
    rw c.from_residual-in_err-next-2.ensures
    (trigrams-one c.args.text.now _ _ c.utf8.text (sym c.chars-chars.ensures.rest ∙ c.in_ok-next.ensures.steps.0) c.in_err-next-2.ensures.steps.0.0)

pub returns-in_err-next-3-clause-none : goal.returns-in_err-next-3-clause-none
returns-in_err-next-3-clause-none c =
    rw c.from_residual-in_err-next-3.ensures
    (trigrams-two c.args.text.now _ _ _ _ c.utf8.text (sym c.chars-chars.ensures.rest ∙ c.in_ok-next.ensures.steps.0) c.in_ok-next-2.ensures.steps.0 c.in_err-next-3.ensures.steps.0.0)

pub range-window-requires-clause-end_boundary : goal.range-window-requires-clause-end_boundary
range-window-requires-clause-end_boundary c =
    rw c.as_str.ensures
    (window_boundary c.args.text.now _ _ _ _ _ _ c.utf8.text (sym c.chars-chars.ensures.rest ∙ c.in_ok-next.ensures.steps.0) c.in_ok-next-2.ensures.steps.0 c.in_ok-next-3.ensures.steps.0)

pub returns-clause-first : goal.returns-clause-first
returns-clause-first c =
    let first = trigrams-first c.args.text.now _ _ _ _ _ _ c.utf8.text (sym c.chars-chars.ensures.rest ∙ c.in_ok-next.ensures.steps.0) c.in_ok-next-2.ensures.steps.0 c.in_ok-next-3.ensures.steps.0 in
    rw (c.range-window.ensures.value, c.as_str.ensures, c.as_str-next.ensures, sub-zero) first
