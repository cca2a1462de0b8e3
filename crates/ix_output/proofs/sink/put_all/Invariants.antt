use Rattle.std.proofs.Common.{ℕ, ◌≤◌, List, Option, length, take}
use Rattle.std.specs.Io.KnownBytes.{Appends}
use Rattle.ix_output.proofs.sink.put_all.Given as goal

pub record Written (old new : Option (List ℕ)) (bytes : List ℕ) (written : ℕ) : Type 0 where
  pub within : written ≤ length bytes
  pub gained : Appends old new (take written bytes)

abbrev pub invariant-loop : goal.invariant-loop
invariant-loop g l = Written (g.W.Write.contents l.initial.out) (g.W.Write.contents l.out) l.bytes l.written
