use Rattle.ix_text.proofs.LawfulLemmas.{lawful_token_list, lawful_collection}
use Rattle.ix_text.proofs.SizeLemmas.{token_list_few}
use Rattle.ix_text.proofs.token.lawful_collection.Goals as goal

pub returns : goal.returns
returns c = record { entries = lawful_token_list; short = λ stop text _. token_list_few stop text; collection = lawful_collection }
