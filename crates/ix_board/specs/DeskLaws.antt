-- What holds of a board once all its desks were handed back, over the desks together.
use Rattle.std.specs.Prelude.{◌≡◌, ◌≢◌, ℕ, List, sum_by, All, Option, Some, slice_get}
use Rattle.std.specs.List.{count_by}
use Rattle.ix_board.specs.Machine.{Place, held_by}
use Rattle.ix_board.specs.Laws.{left_by, finishes, times_finished}
use Rattle.ix_board.specs.Desks.{BoardView, DeskView, settled, ClosesWith}

-- No place is held any more.
abbrev pub NoneHeldAtTheEnd : Type 0 → Type 0
NoneHeldAtTheEnd P = (board : BoardView) (desks : List (DeskView P)) (pieces : List (Option P)) (closed : ClosesWith board desks pieces) (k w : ℕ)
    → All (λ d. d.board ≡ board) desks
    → slice_get (left_by board.count board.workers closed.run) k ≢ Some (held_by w)

-- Over all desks, the deliveries of a place and the times that it was given up are one together where it is done or given up, and else none.
abbrev pub FinishedByDesks : Type 0 → Type 0
FinishedByDesks P = (board : BoardView) (desks : List (DeskView P)) (pieces : List (Option P)) (closed : ClosesWith board desks pieces) (k : ℕ) (p : Place P)
    → slice_get (left_by board.count board.workers closed.run) k ≡ Some p
    → sum_by (λ d. count_by (finishes k) (settled d)) desks ≡ times_finished p
