use Rattle.ix_text.proofs.TermLemmas.{equal_folded_match, equal_terms_match}
use Rattle.ix_text.proofs.term.equal_terms_match.Goals as goal

pub returns : goal.returns
returns c = record { characters = equal_folded_match; words = equal_terms_match }
