-- Scans of a state: what a query finds in a collection of which some documents are removed.
use Rattle.std.specs.Prelude.{◌≡◌, ◌↔◌, ℕ, List, [], Contains}
use Rattle.ix_query.specs.Tree.{Tree}
use Rattle.ix_query.specs.Scans.{IsScan}
use Rattle.ix_scan.specs.ScansWithout.{IsScanWithout}
use Rattle.ix_live.specs.Operations.{State}

-- the numbers of all documents that satisfy the query and are not removed, ascending
abbrev pub IsStateScan : State → Tree → List ℕ → Type 0
IsStateScan state query numbers = IsScanWithout state.collection (Contains state.removed) query numbers

-- a state has one scan for a query
abbrev pub HasOneStateScan : Type 0
HasOneStateScan = (state : State) (query : Tree) (numbers others : List ℕ) → IsStateScan state query numbers → IsStateScan state query others → numbers ≡ others

-- if nothing is removed, it is the collection's own
abbrev pub IsScanWhereNoneIsRemoved : Type 0
IsScanWhereNoneIsRemoved = (state : State) (query : Tree) (numbers : List ℕ) → state.removed ≡ [] → IsStateScan state query numbers ↔ IsScan state.collection query numbers
