use Rattle.ix_text.proofs.TokensApart.{lawful_if_distinct}
use Rattle.ix_text.proofs.parts.distinct_tokens_are_lawful.Goals as goal

pub returns : goal.returns
returns c = lawful_if_distinct
