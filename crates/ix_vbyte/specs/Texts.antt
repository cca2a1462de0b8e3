-- A text behind the number of its bytes.
use Rattle.std.specs.Prelude.{ℕ, List, ◌++◌, length}
use Rattle.ix_vbyte.specs.Code.{code_of}

-- the code of the number of bytes, and the bytes
abbrev pub counted : List ℕ → List ℕ
counted text = code_of (length text) ++ text
