use Rattle.ix_postings.proofs.TokenStarts.{starts_none}
use Rattle.ix_postings.specs.TokenTables.{HasTokens}
use Rattle.ix_postings.proofs.token_table.TokenTable.new.Goals as goal

pub returns : goal.returns
unfolding HasTokens
returns c = rw c.in_ok-vec.ensures.items starts_none
