-- What all workers did, one after another in a list.
use Rattle.std.specs.Prelude.{◌≡◌, ℕ, Bool, false, List, map, flat_map, All, Option}
use Rattle.ix_board.specs.Desks.{DeskView}
use Rattle.ix_pool.specs.declared.worker.Refusal.{Refusal}
use Rattle.ix_pool.specs.declared.maker.Asked.{Asked}
use Rattle.ix_pool.specs.Lowest.{IsLowest}
use Rattle.ix_pool.specs.Working.{WholeStint}

module _ {M P : Type 0} (askings : M → List Asked) (gives : M → ℕ → P → Type 0) (follows : M → M → Type 0) where
  -- One worker's maker and desk before and after its work.
  pub record Shift : Type 0 where
    pub maker : M
    pub desk : DeskView P
    pub new_maker : M
    pub new_desk : DeskView P
    pub lowest : Option Refusal
    pub stopped : Bool
    pub work : WholeStint askings gives follows maker desk new_maker new_desk lowest stopped

  -- what its maker was asked for
  abbrev pub asked_in : Shift → List Asked
  asked_in shift = shift.work.stint.asked

  -- All workers worked, with the lowest refusal of them all. If the whole was not stopped, none of them was.
  pub record HaveWorked (makers : List M) (desks : List (DeskView P)) (new_makers : List M) (new_desks : List (DeskView P)) (lowest : Option Refusal) (stopped : Bool) : Type 0 where
    pub shifts : List Shift
    pub makers_are : map (λ s. s.maker) shifts ≡ makers
    pub desks_are : map (λ s. s.desk) shifts ≡ desks
    pub new_makers_are : map (λ s. s.new_maker) shifts ≡ new_makers
    pub new_desks_are : map (λ s. s.new_desk) shifts ≡ new_desks
    pub lowest_is : IsLowest (flat_map asked_in shifts) lowest
    pub none_stopped : stopped ≡ false → All (λ s. s.stopped ≡ false) shifts
