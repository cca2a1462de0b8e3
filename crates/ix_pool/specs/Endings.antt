-- What the desks of a board leave, once all workers are done.
use Rattle.std.specs.Prelude.{◌≡◌, Bool, true, false, List, map, length, All, Option, Some, None, IsSome, Vec, Result, Ok, Err}
use Rattle.ix_board.specs.Desks.{BoardView, DeskView, ClosesWith}
use Rattle.ix_pool.specs.declared.pool.WorkError.{WorkError}
use Rattle.ix_pool.specs.declared.pool.WorkError.TheVariants.{Make, Memory}
use Rattle.ix_pool.specs.declared.worker.Refusal.{Refusal}

module _ {P : Type 0} where
  -- If no worker stopped and no place failed, closing the board gives a piece at each place.
  abbrev pub HasNoGap : BoardView → List (DeskView P) → Option Refusal → Bool → Type 0
  HasNoGap board desks lowest stopped = stopped ≡ false → lowest ≡ None → (found : List (Option P)) → length found ≡ board.count → ClosesWith board desks found → All IsSome found

  -- the result of the work: out of memory if a worker stopped, else the lowest refusal, else the pieces
  abbrev pub EndsAs : {A : Type 0} → List (Option P) → Option Refusal → Bool → Result (Vec P A) WorkError → Type 0
  EndsAs found lowest true result = result ≡ Err Memory
  EndsAs found (Some refusal) false result = result ≡ Err (Make refusal.place refusal.error)
  EndsAs found None false (Ok pieces) = map Some pieces.items ≡ found
  EndsAs found None false (Err error) = ⊥

  -- Closing the board found this at its places, which gives this result.
  abbrev pub IsEnded : {A : Type 0} → BoardView → List (DeskView P) → Option Refusal → Bool → Result (Vec P A) WorkError → Type 0
  IsEnded board desks lowest stopped result = (found : List (Option P)) × (length found ≡ board.count) × ClosesWith board desks found × EndsAs found lowest stopped result
