-- Pieces that stand one behind another, each of which has to fit those before it.
use Rattle.std.specs.Prelude.{◌≡◌, ℕ, ◌+◌, ◌^◌, ◌<◌, ◌≤◌, ◌++◌, List, Option, Some, length, take, drop, sum_by, flat_map, slice_index_or}
use Rattle.std.specs.Io.KnownBytes.{Consumes}
use Rattle.ix_text.specs.Collections.{IsName}
use Rattle.ix_text.specs.Parts.{DocumentRow}
use Rattle.ix_text.specs.Terms.{IsTerm}
use Rattle.ix_run_text.specs.Orders.{StandsAbove}

-- each piece fits those before it
abbrev pub EachFits : {X : Type 0} → (List X → X → Type 0) → List X → Type 0
EachFits {X} Fits pieces = (n : ℕ) (none : X) → n < length pieces → Fits (take n pieces) (slice_index_or pieces n none)

-- Pieces were read: they fit, they were taken, and where so many such pieces stand first these are the first of them.
pub record ArePiecesRead {X : Type 0} (spelled : X → List ℕ) (Fits : List X → X → Type 0) (old new : Option (List ℕ)) (read : List X) (count : ℕ) : Type 0 where
  pub taken : Consumes old new (flat_map spelled read)
  pub fits : EachFits Fits read
  pub accepted : (pieces : List X) (rest : List ℕ) → length pieces ≡ count → EachFits Fits pieces → old ≡ Some (flat_map spelled pieces ++ rest)
      → (read ≡ take (length read) pieces) × (new ≡ Some (flat_map spelled (drop (length read) pieces) ++ rest))

-- a term above the stop terms before it
pub record StopTermFits (before : List (List ℕ)) (text : List ℕ) : Type 0 where
  pub term : IsTerm text
  pub above : StandsAbove before text

-- a name, and tokens that leave the sum within bounds
pub record RowFits (before : List DocumentRow) (row : DocumentRow) : Type 0 where
  pub name : IsName row.name
  pub few : sum_by (λ other. other.tokens) before + row.tokens ≤ 2 ^ 28
