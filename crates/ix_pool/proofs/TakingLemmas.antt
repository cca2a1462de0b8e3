-- How a desk comes to its next place.
use Rattle.std.proofs.Common.{◌≡◌, ℕ, ◌<◌, List, [], ◌∷◌, ◌++◌, map, sym, ◌∙◌}
use Rattle.std.specs.Prelude.{Option, Some, None, IfSome, IfNone}
use Rattle.std.proofs.lemmas.Option.{none-some}
use Rattle.ix_board.specs.declared.step.Step.TheVariants.{Claim, Look}
use Rattle.ix_board.specs.Desks.{DeskView, place_held, LooksThenClaims, LooksOnly, HasSeenAll}
use Rattle.ix_pool.specs.Taking.{FinishNone, TakesPlace, FindsNone}

looks_finish_none : (P : Type 0) (seen : List ℕ) → FinishNone {P = P} (map Look seen)
looks_finish_none P [] = tt
looks_finish_none P (k ∷ seen) = looks_finish_none P seen

claims_finish_none : (P : Type 0) (seen : List ℕ) (k : ℕ) → FinishNone {P = P} (map Look seen ++ Claim k ∷ [])
claims_finish_none P [] k = tt
claims_finish_none P (j ∷ seen) k = claims_finish_none P seen k

module _ {P : Type 0} where
  -- what a claim comes to, where the desk held none
  pub claim_takes : (old new : DeskView P) (found : Option ℕ) → place_held old ≡ None → IfSome found (λ k. (k < old.board.count) × LooksThenClaims old new k) → place_held new ≡ found → IfSome found (TakesPlace old new)
  claim_takes old new None free claimed held = tt
  claim_takes old new (Some k) free claimed held = record {
    steps = map Look claimed.1.0 ++ Claim k ∷ [];
    desk_is = claimed.1.1;
    finish_none = claims_finish_none P claimed.1.0 k;
    held = held;
    below = claimed.0;
    same = λ own e. absurd (none-some own (sym free ∙ e));
  }

  pub claim_finds_none : (old new : DeskView P) (found : Option ℕ) → place_held old ≡ None → IfNone found (LooksOnly old new × HasSeenAll new) → place_held new ≡ found → IfNone found (FindsNone old new)
  claim_finds_none old new (Some k) free none held = tt
  claim_finds_none old new None free none held = record {
    steps = map Look none.0.0;
    desk_is = none.0.1;
    finish_none = looks_finish_none P none.0.0;
    free = λ own e. none-some own (sym free ∙ e);
    held = held;
    seen = none.1;
  }
