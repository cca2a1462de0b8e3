-- The parser's state as the machine's.
use Rattle.std.specs.Prelude.{List, map, reverse}
use Rattle.ix_query_text.specs.declared.parser.Frame.{Frame as OwnedFrame}
use Rattle.ix_query_text.specs.declared.parser.Frame.TheVariants as owned
use Rattle.ix_query_text.specs.declared.parser.Pending.{Pending as OwnedPending}
use Rattle.ix_query_text.specs.declared.parser.Place.{Place as BorrowedPlace}
use Rattle.ix_query_text.specs.declared.parser.Place.TheVariants as borrowed
use Rattle.ix_query_text.specs.declared.parser.State.{State as BorrowedState}
use Rattle.ix_query_text.specs.Machine.{Frame, Negating, Inside, Pending, Place, Operand, Operator, AfterRun, AfterNear, State}

abbrev pub frame_of : OwnedFrame → Frame
frame_of owned.Negating = Negating
frame_of (owned.Inside ors ands) = Inside ors ands

-- The code has the innermost last.
abbrev pub frames_of : List OwnedFrame → List Frame
frames_of frames = reverse (map frame_of frames)

abbrev pub pending_of : OwnedPending → Pending
pending_of pending = record { frames = frames_of pending.frames; ors = pending.ors; ands = pending.ands }

abbrev pub place_of : BorrowedPlace → Place
place_of borrowed.Operand = Operand
place_of borrowed.Operator = Operator
place_of (borrowed.AfterRun words) = AfterRun words.now
place_of (borrowed.AfterNear first distance) = AfterNear first distance

abbrev pub state_of : BorrowedState → State
state_of state = record { place = place_of state.place; pending = pending_of state.pending }
