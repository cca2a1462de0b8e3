use Rattle.std.proofs.Common.{refl}
use Rattle.ix_vbyte.proofs.Places.{no_skips}
use Rattle.ix_vbyte.proofs.cursor.Postings.resume.Goals as goal

pub invariant_of-result : goal.invariant_of-result
invariant_of-result c = (c.requires, no_skips _)

pub returns : goal.returns
returns c = refl
