use Rattle.std.proofs.Common.{◌≡◌, ℕ, List, ◌++◌, length, take}
use Rattle.std.specs.Prelude.{map, string_bytes}
use Rattle.ix_file.specs.Opened.{names_of}
use Rattle.ix_archive_writer.specs.Takings.{AreTaken}
use Rattle.ix_archive_writer.proofs.taking.take_names.Given as goal

abbrev pub invariant-loop-document : goal.invariant-loop-document
invariant-loop-document l =
    (before : List (List ℕ)) → length before ≡ l.first → AreTaken l.asked l.removed before (map string_bytes l.initial.taken.items)
    → AreTaken l.asked l.removed (before ++ take l.document (names_of l.index.parts.rows)) (map string_bytes l.taken.items)
