-- A text has one stop set or one fault, and never both.
use Rattle.std.specs.Prelude.{◌≡◌, ℕ, ◌⊎◌, List}
use Rattle.ix_text.specs.StopFaults.{IsStopFault}
use Rattle.ix_text.specs.StopText.{IsStopText}
use Rattle.ix_text.specs.declared.stop.StopError.{StopError}

-- a text has one stop set at most
abbrev pub HasOneStopSet : Type 0
HasOneStopSet = (text : List ℕ) (one other : List (List ℕ)) → IsStopText text one → IsStopText text other → one ≡ other

-- a text has one fault at most
abbrev pub HasOneStopFault : Type 0
HasOneStopFault = (text : List ℕ) (one other : StopError) → IsStopFault text one → IsStopFault text other → one ≡ other

-- a text that has a fault has no stop set
abbrev pub FaultsExcludeStopSet : Type 0
FaultsExcludeStopSet = (text : List ℕ) (stop : List (List ℕ)) (fault : StopError) → IsStopFault text fault → ¬ (IsStopText text stop)

-- each text has a stop set or a fault
abbrev pub HasStopSetOrFault : Type 0
HasStopSetOrFault = (text : List ℕ) → ((stop : List (List ℕ)) × IsStopText text stop) ⊎ ((fault : StopError) × IsStopFault text fault)
