use Rattle.ix_query_text.proofs.Strips.{strip_is, strip_only}
use Rattle.ix_query_text.proofs.laws.phrases_have_no_hole_at_an_end.Goals as goal

pub returns : goal.returns
returns c = record { stripped = strip_is; only = strip_only }
