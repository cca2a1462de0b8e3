-- What a step of writing leaves in a writer that tells its bytes.
use Rattle.std.specs.Prelude.{ℕ, List, Option, Result, Ok, Err}
use Rattle.std.specs.Io.KnownBytes.{Appends}
use Rattle.ix_output.specs.Sinks.{AppendsFront}

-- all of the bytes went out, or, where the writer refused, a beginning of them
abbrev pub Writes : {T E : Type 0} → Result T E → Option (List ℕ) → Option (List ℕ) → List ℕ → Type 0
Writes (Ok done) old new bytes = Appends old new bytes
Writes (Err refused) old new bytes = AppendsFront old new bytes
