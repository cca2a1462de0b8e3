-- The names of the documents that a query finds.
use Rattle.std.proofs.Common.{◌≡◌, ℕ, List, length, subst, arith}
use Rattle.std.specs.Prelude.{Contains}
use Rattle.std.proofs.lemmas.Option.{get_or_from_slice_get, slice_get_within}
use Rattle.ix_query.specs.Tree.{Tree}
use Rattle.ix_live.specs.NameErrors.{RefusesNames}
use Rattle.ix_live.specs.Operations.{Operation, documents_added, state_after}
use Rattle.ix_live.specs.StateScans.{IsStateScan}
use Rattle.ix_live.specs.declared.name_error.NameError.TheVariants.{Number}

-- each number that is found is a document's
pub found_is_document : (stop : List (List ℕ)) (operations : List Operation) (query : Tree) (numbers handed : List ℕ) (place : ℕ) → handed ≡ numbers
    → IsStateScan (state_after stop operations) query numbers → ¬ (RefusesNames (length (documents_added operations)) handed (Number place))
found_is_document stop operations query numbers handed place same scan (number, at, high, first) =
    let among : Contains handed number = (place, slice_get_within handed place number at, get_or_from_slice_get handed place number number at) in
    let found = (scan.exact number).0 (subst (λ l. Contains l number) same among) in
    omega (arith, high, slice_get_within (documents_added operations) number found.0.document found.0.numbered)
