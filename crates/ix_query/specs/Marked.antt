-- Which numbers are marked.
use Rattle.std.specs.Prelude.{◌≡◌, ℕ}
use Rattle.ix_postings.specs.TokenMarks.{mark_of}
use Rattle.ix_query.specs.declared.answers.marks.Marks.{Marks}

abbrev pub IsMarked : Marks → ℕ → Type 0
IsMarked marks n = mark_of marks.words.items n ≡ 1
