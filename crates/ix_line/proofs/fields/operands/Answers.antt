-- The words that the operand takes are there.
use Rattle.std.proofs.Common.{◌≡◌, ◌∙◌, ap, sym, Option, Some, None, true, option_map, is_some, refl, Bor, List}
use Rattle.std.proofs.lemmas.Result.{IfOk-weaker}
use Rattle.clap.specs.Words.{Text, all_of, found_of, rows_of}
use Rattle.ix_line.specs.Lines.{texts_of}
use Rattle.ix_line.proofs.fields.operands.Goals as goal

given : (o : Option (Bor (List (Bor Text)))) (t : Option (List Text)) → option_map (λ list. texts_of list.now) o ≡ t → is_some t ≡ true → is_some o ≡ true
given None t e some = ap is_some e ∙ some
given (Some s) t e some = refl

pub unwrap-requires : goal.unwrap-requires
unwrap-requires c = given c.several.result (all_of c.args.id.now (rows_of (found_of c.args.matches.now))) c.several.ensures c.requires

pub returns : goal.returns
returns c =
    let rows = sym c.several.ensures ∙ ap (option_map (λ (s : Bor (List (Bor Text))). texts_of s.now)) c.unwrap.ensures in
    IfOk-weaker c.from_slice.result (λ list. list.items ≡ c.unwrap.result.now) _
    (λ list same. rows ∙ ap (λ (items : List (Bor Text)). Some (texts_of items)) (sym same)) c.from_slice.ensures.items
