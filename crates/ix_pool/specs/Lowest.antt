-- The lowest place that failed among askings, if there is one.
use Rattle.std.specs.Prelude.{List, Option, Some, None}
use Rattle.ix_pool.specs.declared.worker.Refusal.{Refusal}
use Rattle.ix_pool.specs.declared.maker.Asked.{Asked}
use Rattle.ix_pool.specs.Askings.{NoneRefused, IsLowestRefused}

abbrev pub IsLowest : List Asked → Option Refusal → Type 0
IsLowest askings None = NoneRefused askings
IsLowest askings (Some refusal) = IsLowestRefused askings refusal.place refusal.error
