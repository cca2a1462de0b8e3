use Rattle.ix_text.proofs.TokensApart.{lawful_distinct, lawful_in_order}
use Rattle.ix_text.proofs.parts.lawful_tokens_are_distinct.Goals as goal

pub returns : goal.returns
returns c = λ parts lawful. (lawful_in_order parts lawful, lawful_distinct parts lawful)
