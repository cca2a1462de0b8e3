-- A run in memory with a term at hand may answer that memory was refused.
use Rattle.std.proofs.Common.{◌≡◌, true, false, IsSome, Result, Ok, Err, IfErr}
use Rattle.std.specs.declared.alloc.AllocError.{AllocError}
use Rattle.ix_run.specs.RunSources.{IsAtEnd, MayLackMemory, SourceValue}

-- a run in memory with a term at hand is not at its end
pub some_going : (source : SourceValue) → IsSome source.term → ¬ (IsAtEnd source)
some_going source some end = let wrong : false ≡ true = rw end.1 at some in cc

pub going_fault : {T : Type 0} (source : SourceValue) (result : Result T AllocError) → IsSome source.term → IfErr result (MayLackMemory source)
going_fault source (Ok x) some = tt
going_fault source (Err e) some = some_going source some
