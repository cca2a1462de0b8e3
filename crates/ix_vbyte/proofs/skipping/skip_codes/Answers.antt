use Rattle.std.proofs.Common.{◌≤◌, ◌∙◌, length, sym, ap₂, subst}
use Rattle.ix_vbyte.specs.Ends.{end_of}
use Rattle.ix_vbyte.proofs.Ends.{end_of-le, end_of-codes}
use Rattle.ix_vbyte.proofs.skipping.skip_codes.Goals as goal

pub returns-clause-codes : goal.returns-clause-codes
returns-clause-codes c numbers rest coded counted = c.skip_words.ensures ∙ ap₂ end_of (sym counted) coded ∙ end_of-codes numbers rest

pub returns-clause-within : goal.returns-clause-within
returns-clause-within c = subst (λ n. n ≤ length c.args.bytes.now) (sym c.skip_words.ensures) (end_of-le c.args.count c.args.bytes.now)
