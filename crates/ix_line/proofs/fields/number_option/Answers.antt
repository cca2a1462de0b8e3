-- What `get_one` reads is the number of the row's text.
use Rattle.std.proofs.Common.{◌∙◌}
use Rattle.std.specs.Str.Parse.{ExplainsUnsignedError, HasUnsignedDigitsIfOk, ParsesUnsigned}
use Rattle.clap.specs.Words.{found_of, one_of, rows_of}
use Rattle.clap.proofs.WalkLemmas.{one_text-rows}
use Rattle.ix_line.proofs.Numbers.{read_number}
use Rattle.ix_line.proofs.fields.number_option.Goals as goal

pub returns : goal.returns
returns c =
    let row = one_text-rows (found_of c.args.matches.now) c.args.id.now in
    let text = one_of c.args.id.now (rows_of (found_of c.args.matches.now)) in
    read_number _ (λ bs r. ParsesUnsigned 32 10 bs r × ExplainsUnsignedError 10 bs r × HasUnsignedDigitsIfOk bs r) text c.get_one.result c.requires (λ u x g. g.0)
    (λ none. c.get_one.ensures.none (row ∙ none)) (λ t is. c.get_one.ensures.value t (row ∙ is))
