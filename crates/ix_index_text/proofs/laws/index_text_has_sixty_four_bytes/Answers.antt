use Rattle.ix_index_text.proofs.TextLaws.{length-layout}
use Rattle.ix_index_text.proofs.laws.index_text_has_sixty_four_bytes.Goals as goal

pub returns : goal.returns
returns c = λ version collection bytes is. length-layout version is.parts is.grams bytes is.spelled
