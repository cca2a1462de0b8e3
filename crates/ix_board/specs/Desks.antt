-- Boards and desks as contracts see them, and what closing a board gives.
use Rattle.std.specs.Prelude.{◌≡◌, ℕ, ◌<◌, ◌≤◌, List, [], ◌∷◌, ◌++◌, map, Option, Some, None, slice_get}
use Rattle.std.specs.List.{range_with_len, Contains}
use Rattle.atomic_table.specs.Seated.{TableId}
use Rattle.ix_board.specs.declared.step.Step.{Step}
use Rattle.ix_board.specs.declared.step.Step.TheVariants.{Claim, Deliver, GiveUp, Look}
use Rattle.ix_board.specs.Machine.{Run, first_held, steps_by, held_after, piece_of}
use Rattle.ix_board.specs.Laws.{left_by, IsPossible, HasSeen}

-- A board is known by its table, of which there is no second, and has so many places, for so many workers.
pub record BoardView : Type 0 where
  pub table : TableId
  pub count : ℕ
  pub workers : ℕ

-- A desk belongs to a board, is that of the worker with its number, and has made these steps.
pub record DeskView (P : Type 0) : Type 0 where
  pub board : BoardView
  pub number : ℕ
  pub steps : List (Step P)

module _ {P : Type 0} where
  -- The desk of a worker that has made no step.
  abbrev pub fresh_desk : BoardView → ℕ → DeskView P
  fresh_desk board number = record { board = board; number = number; steps = [] }

  -- The desks of all workers, in order, before any step.
  abbrev pub fresh_desks : BoardView → ℕ → List (DeskView P)
  fresh_desks board n = map (fresh_desk board) (range_with_len 0 n)

  -- The desk after more steps.
  abbrev pub with_steps : DeskView P → List (Step P) → DeskView P
  with_steps d more = record { board = d.board; number = d.number; steps = d.steps ++ more }

  -- The same worker's desk of the same board.
  abbrev pub IsSameDesk : DeskView P → DeskView P → Type 0
  IsSameDesk old new = (new.board ≡ old.board) × (new.number ≡ old.number)

  -- The place that a desk holds, by its own steps.
  abbrev pub place_held : DeskView P → Option ℕ
  place_held d = held_after (first_held d.board.count d.board.workers d.number) d.steps

  -- A desk looked at some places and then claimed place k.
  abbrev pub LooksThenClaims : DeskView P → DeskView P → ℕ → Type 0
  LooksThenClaims old new k = (seen : List ℕ) × (new ≡ with_steps old (map Look seen ++ Claim k ∷ []))

  -- A desk looked at some places.
  abbrev pub LooksOnly : DeskView P → DeskView P → Type 0
  LooksOnly old new = (seen : List ℕ) × (new ≡ with_steps old (map Look seen))

  -- Each place stands among the desk's own steps, by a look or a claim, or is its first: so none is open.
  abbrev pub HasSeenAll : DeskView P → Type 0
  HasSeenAll d = (k : ℕ) → k < d.board.count → HasSeen d.board.count d.board.workers d.number d.steps k

  -- What a desk does as it is handed back: it gives up the place that it holds.
  abbrev pub last_steps : Option ℕ → List (Step P)
  last_steps None = []
  last_steps (Some k) = GiveUp k ∷ []

  -- A desk's steps once it is handed back.
  abbrev pub settled : DeskView P → List (Step P)
  settled d = d.steps ++ last_steps (place_held d)

-- One possible run has just the steps of these desks, once handed back, each worker of the board having one of them, and the pieces are those of the places that it leaves.
-- So place k has the piece that a deliver step on k names, and none where no desk made such a step.
pub record ClosesWith {P : Type 0} (board : BoardView) (desks : List (DeskView P)) (pieces : List (Option P)) : Type 0 where
  pub run : Run P
  pub possible : IsPossible board.count board.workers run
  pub by_desks : (i : ℕ) (d : DeskView P) → slice_get desks i ≡ Some d → (d.number < board.workers) × (steps_by d.number run ≡ settled d)
  pub by_no_other : (w : ℕ) → board.workers ≤ w → steps_by w run ≡ []
  pub each_worker : (w : ℕ) → w < board.workers → (i : ℕ) × (d : DeskView P) × (slice_get desks i ≡ Some d) × (d.number ≡ w)
  pub apart : (i j : ℕ) (d e : DeskView P) → slice_get desks i ≡ Some d → slice_get desks j ≡ Some e → d.number ≡ e.number → i ≡ j
  pub pieces_are : pieces ≡ map piece_of (left_by board.count board.workers run)
  pub delivered : (i : ℕ) (d : DeskView P) (k : ℕ) (x : P) → slice_get desks i ≡ Some d → Contains d.steps (Deliver k x) → slice_get pieces k ≡ Some (Some x)
  pub by_delivery : (k : ℕ) (x : P) → slice_get pieces k ≡ Some (Some x) → (i : ℕ) × (d : DeskView P) × (slice_get desks i ≡ Some d) × Contains d.steps (Deliver k x)
