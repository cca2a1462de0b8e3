-- A state has one scan for a query.
use Rattle.std.proofs.Common.{◌≡◌, ℕ, List, [], subst}
use Rattle.std.specs.Prelude.{◌↔◌, Contains}
use Rattle.ix_query.specs.Tree.{Tree}
use Rattle.ix_query.specs.Scans.{IsScan}
use Rattle.ix_scan.proofs.Members.{none_in_nil}
use Rattle.ix_scan.proofs.ScanLemmas.{one_scan_without, whole_scan}
use Rattle.ix_live.specs.Operations.{State}
use Rattle.ix_live.specs.StateScans.{IsStateScan}

pub one_state_scan : (state : State) (query : Tree) (numbers others : List ℕ) → IsStateScan state query numbers → IsStateScan state query others → numbers ≡ others
one_state_scan state query numbers others a b = one_scan_without state.collection (Contains state.removed) query numbers others a b

pub whole_state_scan : (state : State) (query : Tree) (numbers : List ℕ) → state.removed ≡ [] → IsStateScan state query numbers ↔ IsScan state.collection query numbers
whole_state_scan state query numbers none =
    whole_scan state.collection (Contains state.removed) query numbers (λ n gone. none_in_nil n (subst (λ (l : List ℕ). Contains l n) none gone))
