use Rattle.std.proofs.Common.{ℕ, ◌-◌, List, Option, length, ap, ◌∙◌, arith}
use Rattle.std.proofs.lemmas.Option.{slice_get-get_or}
use Rattle.std.specs.Option.{unwrap_or}
use Rattle.std.specs.Prelude.{slice_get}
use Rattle.ix_postings.proofs.TokenStarts.{last_start}
use Rattle.ix_postings.specs.TokenTables.{AreStarts, HasTokens}
use Rattle.ix_postings.proofs.token_table.TokenTable.total.Goals as goal

pub returns : goal.returns
unfolding HasTokens
returns c rows has =
    let starts : List ℕ = c.args.self.now.starts.items in
    let are : AreStarts starts rows = has in
    c.unwrap_or.ensures
    ∙ ap (λ (last : Option ℕ). unwrap_or last 0)
    (c.copied.ensures ∙ c.last.ensures.value ∙ ap (λ (items : List ℕ). slice_get items (length items - 1)) c.deref.ensures.value ∙ slice_get-get_or starts (length starts - 1) 0 (omega (arith, are.counted)))
    ∙ last_start starts rows 0 are
