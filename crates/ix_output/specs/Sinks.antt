-- What a writer whose bytes are known has gained, and the number of an error.
use Rattle.std.specs.Prelude.{◌≡◌, ℕ, List, ◌++◌, Option}
use Rattle.std.specs.Io.KnownBytes.{Appends}
use Rattle.ix_output.specs.declared.sink.WriteError.{WriteError}
use Rattle.ix_output.specs.declared.sink.WriteError.TheVariants.{Write}

-- the writer gained a prefix of the bytes, perhaps none of them, perhaps all
pub record AppendsFront (old new : Option (List ℕ)) (bytes : List ℕ) : Type 0 where
  pub front : List ℕ
  pub rest : List ℕ
  pub parts : bytes ≡ front ++ rest
  pub gained : Appends old new front

-- the number of an error
abbrev pub write_error_number : WriteError → ℕ
write_error_number Write = 1
