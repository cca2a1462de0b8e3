-- The board as a machine over plain lists: what a step of a worker does to a row of places, and which runs of steps are possible.
use Rattle.std.specs.Prelude.{◌≡◌, ◌≢◌, ℕ, ◌==◌, nat_lt, List, [], ◌∷◌, map, ◌&&◌, Option, Some, None, slice_get, slice_set, if◌then◌else◌}
use Rattle.std.specs.List.{range_with_len}
use Rattle.ix_board.specs.declared.step.Step.{Step}
use Rattle.ix_board.specs.declared.step.Step.TheVariants.{Claim, Deliver, GiveUp, Look}

-- A place is open, held by a worker, done by a worker with a piece, or given up by a worker.
pub data Place (P : Type 0) : Type 0 where
  open_place : Place P
  held_by : ℕ → Place P
  done_by : ℕ → P → Place P
  given_up_by : ℕ → Place P

-- A run is the list of all steps, the first one first, each with the worker that made it.
abbrev pub Run : Type 0 → Type 0
Run P = List (ℕ × Step P)

-- Worker w begins with place w, where there is such a worker and such a place.
abbrev pub first_held : ℕ → ℕ → ℕ → Option ℕ
first_held count workers w = if nat_lt w count && nat_lt w workers then Some w else None

module _ {P : Type 0} where
  -- The places after a step of worker w.
  abbrev pub after : List (Place P) → ℕ → Step P → List (Place P)
  after places w (Claim k) = slice_set places k (held_by w)
  after places w (Deliver k x) = slice_set places k (done_by w x)
  after places w (GiveUp k) = slice_set places k (given_up_by w)
  after places w (Look k) = places

  -- No place is held by worker w.
  abbrev pub HoldsNone : List (Place P) → ℕ → Type 0
  HoldsNone places w = (k : ℕ) → slice_get places k ≢ Some (held_by w)

  -- Worker w may claim an open place while it holds none, may deliver or give up the place that it holds, and looks at a place that is not open.
  abbrev pub May : List (Place P) → ℕ → Step P → Type 0
  May places w (Claim k) = (slice_get places k ≡ Some open_place) × HoldsNone places w
  May places w (Deliver k x) = slice_get places k ≡ Some (held_by w)
  May places w (GiveUp k) = slice_get places k ≡ Some (held_by w)
  May places w (Look k) = (p : Place P) × (slice_get places k ≡ Some p) × (p ≢ open_place)

  -- The places after a run.
  abbrev pub places_after : List (Place P) → Run P → List (Place P)
  places_after places [] = places
  places_after places (e ∷ run) = places_after (after places e.0 e.1) run

  -- A run is possible where each step may be made when its turn comes.
  abbrev pub MayRun : List (Place P) → Run P → Type 0
  MayRun places [] = Unit {0}
  MayRun places (e ∷ run) = May places e.0 e.1 × MayRun (after places e.0 e.1) run

  -- The steps of worker w in a run, in their order.
  abbrev pub steps_by : ℕ → Run P → List (Step P)
  steps_by w [] = []
  steps_by w (e ∷ run) = if e.0 == w then e.1 ∷ steps_by w run else steps_by w run

  -- What a worker holds after a step of its own, where it held h before.
  abbrev pub held_then : Option ℕ → Step P → Option ℕ
  held_then h (Claim k) = Some k
  held_then h (Deliver k x) = None
  held_then h (GiveUp k) = None
  held_then h (Look k) = h

  -- What a worker holds after steps of its own, where it held h before.
  abbrev pub held_after : Option ℕ → List (Step P) → Option ℕ
  held_after h [] = h
  held_after h (s ∷ steps) = held_after (held_then h s) steps

  -- The piece that a place has: none, unless it is done.
  abbrev pub piece_of : Place P → Option P
  piece_of open_place = None
  piece_of (held_by w) = None
  piece_of (done_by w x) = Some x
  piece_of (given_up_by w) = None

-- The place with this number at the start: a worker's first place is held by it, and each other place is open.
abbrev pub place_at_first : {P : Type 0} → ℕ → ℕ → Place P
place_at_first workers k = if nat_lt k workers then held_by k else open_place

-- The places of a board before any step.
abbrev pub opening : {P : Type 0} → ℕ → ℕ → List (Place P)
opening count workers = map (place_at_first workers) (range_with_len 0 count)
