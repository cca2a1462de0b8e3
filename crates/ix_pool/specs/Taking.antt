-- How a desk comes to a place, and how it ends the work on one.
use Rattle.std.specs.Prelude.{◌≡◌, ℕ, ◌<◌, List, [], ◌∷◌, Option, Some, None, Result, Ok, Err}
use Rattle.ix_board.specs.declared.step.Step.{Step}
use Rattle.ix_board.specs.declared.step.Step.TheVariants.{Claim, Deliver, GiveUp, Look}
use Rattle.ix_board.specs.Desks.{DeskView, with_steps, place_held, HasSeenAll}
use Rattle.ix_pool.specs.declared.maker.MakeError.{MakeError}
use Rattle.ix_pool.specs.declared.worker.Refusal.{Refusal}

module _ {P : Type 0} where
  -- no step ends the work on a place
  abbrev pub FinishNone : List (Step P) → Type 0
  FinishNone [] = Unit {0}
  FinishNone (Claim place ∷ steps) = FinishNone steps
  FinishNone (Look place ∷ steps) = FinishNone steps
  FinishNone (Deliver place piece ∷ steps) = ⊥
  FinishNone (GiveUp place ∷ steps) = ⊥

  -- The desk goes on by steps that end the work on no place, and then holds this one. If it held one before it is the same.
  pub record TakesPlace (old new : DeskView P) (place : ℕ) : Type 0 where
    pub steps : List (Step P)
    pub desk_is : new ≡ with_steps old steps
    pub finish_none : FinishNone steps
    pub held : place_held new ≡ Some place
    pub below : place < old.board.count
    pub same : (own : ℕ) → place_held old ≡ Some own → own ≡ place

  -- The desk held none and goes on by looks alone, after which it has seen that no place is open.
  pub record FindsNone (old new : DeskView P) : Type 0 where
    pub steps : List (Step P)
    pub desk_is : new ≡ with_steps old steps
    pub finish_none : FinishNone steps
    pub free : (own : ℕ) → place_held old ≡ Some own → ⊥
    pub held : place_held new ≡ None
    pub seen : HasSeenAll new

  -- The place is done with the piece, or given up if none was made.
  abbrev pub HandsIn : DeskView P → DeskView P → ℕ → Result P MakeError → Option Refusal → Type 0
  HandsIn old new place (Ok piece) refusal = (new ≡ with_steps old (Deliver place piece ∷ [])) × (place_held new ≡ None) × (refusal ≡ None)
  HandsIn old new place (Err error) refusal = (new ≡ with_steps old (GiveUp place ∷ [])) × (place_held new ≡ None) × (refusal ≡ Some (record { place = place; error = error }))
