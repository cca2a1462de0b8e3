use Rattle.std.proofs.Common.{ap₂, ◌∙◌, ◌++◌, ◌∷◌, []}
use Rattle.ix_vbyte.proofs.Widths.{digits_more}
use Rattle.ix_vbyte.proofs.encoding.push_digit.Goals as goal

pub returns-then-number-gt0 : goal.returns-then-number-gt0
returns-then-number-gt0 c = c.push.ensures.items ∙ ap₂ (λ xs x. xs ++ x ∷ []) c.requires.others c.group.ensures ∙ digits_more c.args.number c.if-number-gt0.true
