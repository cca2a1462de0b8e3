use Rattle.ix_text.proofs.SizeLemmas.{tokens_no_more_than_bytes, slices_small}
use Rattle.ix_text.proofs.token.tokens_are_no_more_than_bytes.Goals as goal

pub returns : goal.returns
returns c = record { tokens = tokens_no_more_than_bytes; slices = slices_small }
