-- What `get_str` reads is the first value of the row, which is there.
use Rattle.std.proofs.Common.{◌≡◌, ◌∙◌, ap, sym, Option, Some, None, true, option_map, is_some, refl, Bor}
use Rattle.clap.specs.Words.{Text, first_of, found_of, rows_of}
use Rattle.clap.proofs.WalkLemmas.{first_value-rows}
use Rattle.ix_line.proofs.fields.operand.Goals as goal

given : (o : Option (Bor Text)) (t : Option Text) → option_map (λ s. s.now) o ≡ t → is_some t ≡ true → is_some o ≡ true
given None t e some = ap is_some e ∙ some
given (Some s) t e some = refl

pub unwrap-requires : goal.unwrap-requires
unwrap-requires c =
    given c.get_str.result (first_of c.args.id.now (rows_of (found_of c.args.matches.now)))
    (c.get_str.ensures ∙ first_value-rows (found_of c.args.matches.now) c.args.id.now) c.requires

pub returns : goal.returns
returns c =
    sym (c.get_str.ensures ∙ first_value-rows (found_of c.args.matches.now) c.args.id.now) ∙ ap (option_map (λ (s : Bor Text). s.now)) c.unwrap.ensures
