use Rattle.std.proofs.Common.{take}
use Rattle.ix_index_text.specs.GramTables.{HoldsGrams}
use Rattle.ix_extract.specs.FoundTexts.{found_texts}
use Rattle.ix_extract.proofs.assemble.append_grams.Given as goal

abbrev pub invariant-loop-one : goal.invariant-loop-one
invariant-loop-one l = HoldsGrams l.grams (found_texts (take l.one-index l.found))
