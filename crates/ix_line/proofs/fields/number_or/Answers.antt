-- The number of the option is that of the row's text.
use Rattle.std.proofs.Common.{◌≡◌, ◌∙◌, ℕ, Option, Some, None, ap, refl, option_map}
use Rattle.std.specs.Prelude.{unwrap_or}
use Rattle.std.specs.Option.{option_map_or}
use Rattle.clap.specs.Words.{Text, found_of, one_of, rows_of}
use Rattle.ix_line.specs.Lines.{number_of}
use Rattle.ix_line.proofs.fields.number_or.Goals as goal

or_else : (o : Option Text) (otherwise : ℕ) → unwrap_or (option_map number_of o) otherwise ≡ option_map_or number_of o otherwise
or_else None otherwise = refl
or_else (Some text) otherwise = refl

pub returns : goal.returns
returns c =
    c.unwrap_or.ensures ∙ ap (λ r. unwrap_or r c.args.otherwise) c.number_option.ensures ∙ or_else (one_of c.args.id.now (rows_of (found_of c.args.matches.now))) c.args.otherwise
