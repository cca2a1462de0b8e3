-- What an input has left.
use Rattle.std.specs.Prelude.{◌≡◌, ℕ, List, ◌++◌, Option, take, drop}
use Rattle.std.specs.Io.KnownBytes.{prepend_known}
use Rattle.ix_run_text.specs.declared.input.Input.{Input}

-- the bytes that are buffered, and then those that the reader is known to have left
unfoldable pub known_left : {R : Type 0} → (R → Option (List ℕ)) → Input R → Option (List ℕ)
known_left remaining input = prepend_known (drop input.start (take input.end input.buffer.items)) (remaining input.reader)

-- the bytes that are buffered and were not taken
unfoldable pub bytes_held : {R : Type 0} → Input R → List ℕ
bytes_held input = drop input.start (take input.end input.buffer.items)

-- These bytes come first.
pub record BeginsWith (front bytes : List ℕ) : Type 0 where
  pub rest : List ℕ
  pub is : bytes ≡ front ++ rest
