-- Why bytes are not the text of removals.
use Rattle.std.specs.Prelude.{◌≡◌, ℕ, ◌+◌, ◌<◌, List, ◌∷◌, [], ◌++◌, length}
use Rattle.ix_removals.specs.RemovalsText.{AreRemovals, Removal, line_of, removals_text}
use Rattle.ix_removals.specs.declared.removals_error.RemovalsError.{RemovalsError}
use Rattle.ix_removals.specs.declared.removals_error.RemovalsError.TheVariants.{Line, Memory}

-- The lines before the one of this number are a text of removals, and with the next line they are not.
pub record IsFaultAt (bytes : List ℕ) (line : ℕ) : Type 0 where
  pub before : List Removal
  pub left : List ℕ
  pub lawful : AreRemovals before
  pub joined : bytes ≡ removals_text before ++ left
  pub numbered : line ≡ length before + 1
  pub some_byte : 0 < length left
  pub none : (removal : Removal) (rest : List ℕ) → left ≡ line_of removal ++ rest → ¬ (AreRemovals (before ++ removal ∷ []))

-- what an error of `read` says of the bytes
abbrev pub IsFault : List ℕ → RemovalsError → Type 0
IsFault bytes (Line line) = IsFaultAt bytes line
IsFault bytes Memory = Unit {0}
