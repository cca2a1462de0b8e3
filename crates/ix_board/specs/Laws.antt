-- What holds in every possible run of a board: the laws of the machine, stated over the definitions alone.
use Rattle.std.specs.Prelude.{◌≡◌, ◌≢◌, ℕ, ◌+◌, ◌==◌, nat_lt, Bool, true, false, ◌&&◌, ◌⊎◌, ◌↔◌, List, ◌++◌, Some, slice_get, if◌then◌else◌}
use Rattle.std.specs.List.{Contains, count_by}
use Rattle.ix_board.specs.declared.step.Step.{Step}
use Rattle.ix_board.specs.declared.step.Step.TheVariants.{Claim, Deliver, GiveUp, Look}
use Rattle.ix_board.specs.Machine.{Place, open_place, held_by, done_by, given_up_by, Run, first_held, places_after, MayRun, steps_by, held_after, opening}

-- The places that a run leaves, from the start of a board.
abbrev pub left_by : {P : Type 0} → ℕ → ℕ → Run P → List (Place P)
left_by count workers run = places_after (opening count workers) run

-- A run that a board of so many places and workers can make.
abbrev pub IsPossible : {P : Type 0} → ℕ → ℕ → Run P → Type 0
IsPossible count workers run = MayRun (opening count workers) run

module _ {P : Type 0} where
  -- The step claims place k.
  abbrev pub claims : ℕ → Step P → Bool
  claims k (Claim j) = j == k
  claims k (Deliver j x) = false
  claims k (GiveUp j) = false
  claims k (Look j) = false

  -- The step ends the work on place k, by a piece or by giving up.
  abbrev pub finishes : ℕ → Step P → Bool
  finishes k (Claim j) = false
  finishes k (Deliver j x) = j == k
  finishes k (GiveUp j) = j == k
  finishes k (Look j) = false

  -- The step tried to claim a place: it claimed it, or looked at it.
  abbrev pub is_try : Step P → Bool
  is_try (Claim j) = true
  is_try (Deliver j x) = false
  is_try (GiveUp j) = false
  is_try (Look j) = true

  -- How often a place was claimed or held first: once, unless it is open.
  abbrev pub times_held : Place P → ℕ
  times_held open_place = 0
  times_held (held_by w) = 1
  times_held (done_by w x) = 1
  times_held (given_up_by w) = 1

  -- How often the work on a place was ended: once, where it is done or given up.
  abbrev pub times_finished : Place P → ℕ
  times_finished open_place = 0
  times_finished (held_by w) = 0
  times_finished (done_by w x) = 1
  times_finished (given_up_by w) = 1

-- Whether place k is held from the start.
abbrev pub is_first : ℕ → ℕ → ℕ → Bool
is_first count workers k = nat_lt k count && nat_lt k workers

-- A worker's own steps tell which place it holds, and the board agrees.
abbrev pub HeldAsOwnStepsTell : Type 0 → Type 0
HeldAsOwnStepsTell P = (count workers k w : ℕ) (run : Run P) → IsPossible count workers run
    → (slice_get (left_by count workers run) k ≡ Some (held_by w)) ↔ (held_after (first_held count workers w) (steps_by w run) ≡ Some k)

-- No two workers hold one place, by what the steps of each tell.
abbrev pub HeldByOne : Type 0 → Type 0
HeldByOne P = (count workers k v w : ℕ) (run : Run P) → IsPossible count workers run
    → held_after (first_held count workers v) (steps_by v run) ≡ Some k
    → held_after (first_held count workers w) (steps_by w run) ≡ Some k
    → v ≡ w

-- A place that is not open stays so, whatever is done after.
abbrev pub NeverOpenAgain : Type 0 → Type 0
NeverOpenAgain P = (count workers k : ℕ) (run later : Run P) → IsPossible count workers (run ++ later)
    → slice_get (left_by count workers run) k ≢ Some open_place
    → slice_get (left_by count workers (run ++ later)) k ≢ Some open_place

-- A place that is done keeps its worker and its piece, whatever is done after.
abbrev pub DoneKeepsItsPiece : Type 0 → Type 0
DoneKeepsItsPiece P = (count workers k w : ℕ) (x : P) (run later : Run P) → IsPossible count workers (run ++ later)
    → slice_get (left_by count workers run) k ≡ Some (done_by w x)
    → slice_get (left_by count workers (run ++ later)) k ≡ Some (done_by w x)

-- The claims of a place, and its first holder where it has one, are one together, and none while it is open.
abbrev pub ClaimedOnce : Type 0 → Type 0
ClaimedOnce P = (count workers k : ℕ) (p : Place P) (run : Run P) → IsPossible count workers run
    → slice_get (left_by count workers run) k ≡ Some p
    → count_by (λ e. claims k e.1) run + (if is_first count workers k then 1 else 0) ≡ times_held p

-- The deliveries of a place and the times that it was given up are one together where it is done or given up, and else none.
abbrev pub FinishedOnce : Type 0 → Type 0
FinishedOnce P = (count workers k : ℕ) (p : Place P) (run : Run P) → IsPossible count workers run
    → slice_get (left_by count workers run) k ≡ Some p
    → count_by (λ e. finishes k e.1) run ≡ times_finished p

-- A place is done with a piece exactly where a step of the run delivered it.
abbrev pub DoneAsDelivered : Type 0 → Type 0
DoneAsDelivered P = (count workers k w : ℕ) (x : P) (run : Run P) → IsPossible count workers run
    → (slice_get (left_by count workers run) k ≡ Some (done_by w x)) ↔ Contains run (w, Deliver k x)

-- By its own steps worker w has seen that place k is not open: it looked at it, claimed it, or held it first.
abbrev pub HasSeen : {P : Type 0} → ℕ → ℕ → ℕ → List (Step P) → ℕ → Type 0
HasSeen count workers w steps k = Contains steps (Look k) ⊎ Contains steps (Claim k) ⊎ (first_held count workers w ≡ Some k)

-- A place that a worker has seen not to be open is not open, in any run with these steps of that worker.
abbrev pub SeenIsNotOpen : Type 0 → Type 0
SeenIsNotOpen P = (count workers k w : ℕ) (run : Run P) → IsPossible count workers run
    → HasSeen count workers w (steps_by w run) k
    → slice_get (left_by count workers run) k ≢ Some open_place
