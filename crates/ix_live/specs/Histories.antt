-- Histories of live indexes: what was published, publish by publish, and what waits for the next publish.
use Rattle.std.specs.Prelude.{◌≡◌, ℕ, List, [], ◌∷◌, ◌++◌}
use mathlib.Core.List.{IsPrefix}
use Rattle.logbook.specs.Pages.{Book}
use Rattle.ix_live.specs.Operations.{Operation}
use Rattle.ix_live.specs.Segments.{joined}

-- which live index it is, by the book of its log, and the operations of each publish so far
pub record History : Type 0 where
  pub book : Book
  pub publishes : List (List Operation)

-- the operations of a history, in order
abbrev pub operations_in : History → List Operation
operations_in history = joined history.publishes

-- the operations of one history begin those of another
abbrev pub Begins : History → History → Type 0
Begins one other = IsPrefix (operations_in one) (operations_in other)

-- the stop set of a live index, and a history of it
pub record Known : Type 0 where
  pub stop : List (List ℕ)
  pub history : History

-- both are of one live index
abbrev pub AreOfOneIndex : Known → Known → Type 0
AreOfOneIndex one other = (one.stop ≡ other.stop) × (one.history.book ≡ other.history.book)

-- ---- with what is pending

-- the operations of each publish so far, and those that wait for the next one
pub record Past : Type 0 where
  pub publishes : List (List Operation)
  pub pending : List Operation

abbrev pub nothing_done : Past
nothing_done = record { publishes = []; pending = [] }

-- all operations, in order
abbrev pub operations_of : Past → List Operation
operations_of past = joined past.publishes ++ past.pending

-- more operations that wait
abbrev pub waiting : Past → List Operation → Past
waiting past operations = record { publishes = past.publishes; pending = past.pending ++ operations }

-- all that waits is published at once
abbrev pub published : Past → Past
published past = record { publishes = past.publishes ++ past.pending ∷ []; pending = [] }

-- the past of a list that has one, and nothing else
abbrev pub past_in : List Past → Past
past_in [] = nothing_done
past_in (past ∷ pasts) = past
