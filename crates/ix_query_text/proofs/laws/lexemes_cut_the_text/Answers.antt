use Rattle.ix_query_text.proofs.Cuts.{cut_sound, cut_complete}
use Rattle.ix_query_text.proofs.laws.lexemes_cut_the_text.Goals as goal

pub returns : goal.returns
returns c = record { cut = cut_sound; only = cut_complete }
