-- The grams of the terms so far are held.
use denote.Shadow.{shadow}
use denote.Text.{Utf8}
use Rattle.std.proofs.Common.{List, ℕ}
use Rattle.ix_index_text.specs.GramTables.{AreTexts}
use Rattle.ix_index_text.proofs.TermTexts.{AreNoted}
use Rattle.ix_index_text.proofs.writer.grams.note_terms.Given as goal

abbrev pub invariant-loop-size : goal.invariant-loop-size
invariant-loop-size l = shadow (Utf8 l.rest) × ((terms : List (List ℕ)) → AreTexts l.texts l.sizes terms → AreNoted l.lists l.rest l.number l.size-index terms)
