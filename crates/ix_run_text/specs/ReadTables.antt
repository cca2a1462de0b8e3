-- That a table has some documents is one fact.
use Rattle.std.proofs.Common.{List}
use denote.Struct.Props as logic
use Rattle.ix_text.specs.Parts.{DocumentRow}
use Rattle.ix_postings.specs.TokenTables.{HasTokens}
use Rattle.ix_postings.specs.declared.token_table.TokenTable.{TokenTable}

pub HasTokens-prop : (table : TokenTable) (rows : List DocumentRow) → IsProp (HasTokens table rows)
unfolding HasTokens
HasTokens-prop table rows = Prim.hlevel logic.props
