-- What a worker does: its desk's steps, and the askings of its maker that go with them.
use Rattle.std.specs.Prelude.{◌≡◌, ℕ, ◌<◌, ◌↔◌, Bool, false, List, [], ◌∷◌, ◌++◌, All, Option, Some, None}
use Rattle.ix_board.specs.declared.step.Step.{Step}
use Rattle.ix_board.specs.declared.step.Step.TheVariants.{Claim, Deliver, GiveUp, Look}
use Rattle.ix_board.specs.Desks.{DeskView, with_steps, place_held, HasSeenAll}
use Rattle.ix_pool.specs.declared.maker.MakeError.{MakeError}
use Rattle.ix_pool.specs.declared.worker.Refusal.{Refusal}
use Rattle.ix_pool.specs.declared.maker.Asked.{Asked}
use Rattle.ix_pool.specs.Askings.{asking, first_place}
use Rattle.ix_pool.specs.Lowest.{IsLowest}

-- Each asking goes with a step that ended the work on its place: a delivery of a piece that the maker may give, or, if it
-- has an error, a giving up. Claims and looks go with no asking.
abbrev pub Answers : {P : Type 0} → (ℕ → P → Type 0) → List (Step P) → List Asked → Type 0
Answers gives [] [] = Unit {0}
Answers gives [] (asked ∷ askings) = ⊥
Answers gives (Claim place ∷ steps) askings = Answers gives steps askings
Answers gives (Look place ∷ steps) askings = Answers gives steps askings
Answers gives (Deliver place piece ∷ steps) [] = ⊥
Answers gives (Deliver place piece ∷ steps) (asked ∷ askings) = (asked ≡ asking place None) × gives place piece × Answers gives steps askings
Answers gives (GiveUp place ∷ steps) [] = ⊥
Answers gives (GiveUp place ∷ steps) (asked ∷ askings) = ((error : MakeError) × (asked ≡ asking place (Some error))) × Answers gives steps askings

module _ {M P : Type 0} (askings : M → List Asked) (gives : M → ℕ → P → Type 0) (follows : M → M → Type 0) where
  -- A stretch of work: from here to there a maker was asked for some places, and its desk made the steps that go with it.
  pub record Stint (maker : M) (desk : DeskView P) (new_maker : M) (new_desk : DeskView P) (lowest : Option Refusal) : Type 0 where
    pub steps : List (Step P)
    pub asked : List Asked
    pub desk_is : new_desk ≡ with_steps desk steps
    pub grown : askings new_maker ≡ askings maker ++ asked
    pub answers : Answers (gives maker) steps asked
    pub below : All (λ a. a.place < desk.board.count) asked
    pub first : (place : ℕ) → place_held desk ≡ Some place → first_place asked (place_held new_desk) ≡ Some place
    pub keeps : (place : ℕ) (piece : P) → gives new_maker place piece ↔ gives maker place piece
    pub goes_on : follows maker new_maker
    pub lowest_is : IsLowest asked lowest

  -- A worker's whole work. Unless it was stopped its desk holds nothing and has seen that no place is open.
  pub record WholeStint (maker : M) (desk : DeskView P) (new_maker : M) (new_desk : DeskView P) (lowest : Option Refusal) (stopped : Bool) : Type 0 where
    pub stint : Stint maker desk new_maker new_desk lowest
    pub done : stopped ≡ false → (place_held new_desk ≡ None) × HasSeenAll new_desk
