-- The room for the pieces that closing a board gives, which one desk keeps.
use Rattle.std.specs.Prelude.{◌≡◌, ◌≢◌, ℕ, ◌≤◌, List, [], Option, Some, None, slice_get}
use Rattle.std.specs.Prelude.{Vec}
use Rattle.std.specs.Vec.{vec_capacity}
use Rattle.ix_board.specs.Desks.{DeskView}

-- An empty list with room for so many pieces.
abbrev pub HasRoom : {X A : Type 0} → ℕ → Vec X A → Type 0
HasRoom count room = (room.items ≡ []) × (count ≤ vec_capacity room)

-- The room is there, or desk 0 is not among these desks.
abbrev pub RoomAmong : {P X A : Type 0} → ℕ → List (DeskView P) → Option (Vec X A) → Type 0
RoomAmong count desks None = (i : ℕ) (d : DeskView _) → slice_get desks i ≡ Some d → d.number ≢ 0
RoomAmong count desks (Some room) = HasRoom count room
