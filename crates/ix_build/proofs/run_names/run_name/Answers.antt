-- The name that the format writes is the one of the place.
use Rattle.std.proofs.Common.{ℕ, List, ◌++◌, ap, codes, ◌∙◌}
use Rattle.std.specs.Fmt.{styled_decimal}
use Rattle.ix_build.proofs.RunNameLemmas.{ten_digits_written}
use Rattle.ix_build.proofs.run_names.run_name.Goals as goal

pub returns : goal.returns
returns c =
    c.in_ok-name.ensures.ok
    ∙ ap (λ s. codes "run-" ++ styled_decimal s c.args.place) c.laid_out.ensures
    ∙ ap (λ (l : List ℕ). codes "run-" ++ l) (ten_digits_written c.args.place)
