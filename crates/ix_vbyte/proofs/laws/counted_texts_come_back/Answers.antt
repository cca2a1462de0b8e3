use Rattle.ix_vbyte.proofs.Texts.{counted-apart, counted_texts_apart}
use Rattle.ix_vbyte.proofs.laws.counted_texts_come_back.Goals as goal

pub returns-clause-one : goal.returns-clause-one
returns-clause-one c = counted-apart

pub returns-clause-many : goal.returns-clause-many
returns-clause-many c = counted_texts_apart
