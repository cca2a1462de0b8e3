-- What was written into an empty vector is the whole text.
use Rattle.std.proofs.Common.{◌∙◌, ℕ, List, ◌++◌, ap, sym, subst}
use Rattle.ix_run.specs.RunText.{IsRunText}
use Rattle.ix_run.specs.Runs.{run_bytes}
use Rattle.ix_ask.proofs.invert_part.text_of.Goals as goal

pub returns-in-Ok : goal.returns-in-Ok
returns-in-Ok c = λ first collection is.
    let written = c.in-Ok.ensures.whole ∙ ap (λ (bytes : List ℕ). bytes ++ run_bytes c.args.run.now) c.new-text.ensures.items in
    subst (IsRunText first collection) (sym written) (c.write_to.ensures.text first collection is)
