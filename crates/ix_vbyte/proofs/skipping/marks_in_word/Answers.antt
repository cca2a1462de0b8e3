use Rattle.std.proofs.Common.{rules}
use Rattle.ix_vbyte.proofs.Marks.{marks_of_word}
use Rattle.ix_vbyte.proofs.skipping.marks_in_word.Goals as goal

pub returns : goal.returns
returns c = search (rules, marks_of_word)
