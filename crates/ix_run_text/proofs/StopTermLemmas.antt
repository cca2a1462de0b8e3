-- Stop terms that fit one another are a stop set, and the other way round.
use Rattle.std.proofs.Common.{ℕ, List, length, subst, arith}
use Rattle.std.proofs.lemmas.List.{take_all}
use Rattle.std.proofs.lemmas.List.Elements.{All-get_or}
use Rattle.ix_text.specs.ByteOrder.{IsAscending}
use Rattle.ix_text.specs.StopSets.{IsStopSet}
use Rattle.ix_text.specs.Terms.{IsTerm}
use Rattle.ix_run_text.specs.Pieces.{EachFits, StopTermFits}
use Rattle.ix_run_text.proofs.OrderLemmas.{ascending_from_above, above_from_ascending}

pub ascending_from_fits : (terms : List (List ℕ)) → EachFits StopTermFits terms → IsAscending terms
ascending_from_fits terms fits =
    subst IsAscending (take_all (length terms) terms (omega arith)) (ascending_from_above terms (λ n none lt. (fits n none lt).above) (length terms) (omega arith))

pub fits_from_stop_set : (stop : List (List ℕ)) → IsStopSet stop → EachFits StopTermFits stop
fits_from_stop_set stop set n none lt = record {
  term = All-get_or IsTerm stop n none lt set.terms;
  above = above_from_ascending stop set.ascending n none lt;
}
