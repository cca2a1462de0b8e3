use Rattle.ix_text.specs.Parts.{terms_of}
use Rattle.ix_gram.proofs.Found.{decided_at}
use Rattle.ix_gram.proofs.expanding.is_match.Goals as goal

pub returns : goal.returns
returns c = decided_at (terms_of c.args.index.now.parts.entries) c.args.pattern.now c.args.number c.term.result.now c.matches.result c.term.ensures c.matches.ensures
