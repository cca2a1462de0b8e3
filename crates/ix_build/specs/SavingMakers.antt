-- Makers that save the runs of blocks and give their heads.
use Rattle.std.specs.Prelude.{◌≡◌, ℕ, ◌+◌, ◌-◌, ◌<◌, ◌≤◌, ◌↔◌, List, [], ◌∷◌, ◌++◌, map, length, All, Option, Some, None, vec_len}
use Rattle.std.specs.Vec.{vec_capacity}
use Rattle.ix_text.specs.Collections.{NamedText}
use Rattle.ix_text.specs.Docs.{named_text}
use Rattle.ix_run.specs.Heads.{heading_of}
use Rattle.ix_run.specs.RunSources.{heading_shown}
use Rattle.ix_run.specs.Runs.{RunValue}
use Rattle.ix_run.specs.RunHead.{RunHead}
use Rattle.ix_build.specs.BlockMakers.{IsMakerOf}
use Rattle.ix_build.specs.BlockRuns.{IsRunOfBlock}
use Rattle.ix_build.specs.Stores.{CountsMore}
use Rattle.ix_pool.specs.Shares.{gained}
use Rattle.ix_pool.specs.declared.maker.MakeError.{MakeError}
use Rattle.ix_pool.specs.declared.maker.MakeError.TheVariants as make
use Rattle.ix_pool.specs.declared.maker.Asked.{Asked}
use Rattle.ix_build.specs.declared.saving_maker.SavingMaker.{SavingMaker}
use Rattle.ix_build.specs.declared.store.StoreError.{StoreError}
use Rattle.ix_build.specs.declared.store.StoreError.TheVariants as store

-- a store's error as that of its maker: a run that was not kept is a place that was refused
abbrev pub make_error_of : StoreError → MakeError
make_error_of store.Store = make.Refused
make_error_of store.Memory = make.Memory

-- the place in front of the others, where it was made
abbrev pub with_place : Option MakeError → ℕ → List ℕ → List ℕ
with_place None place places = place ∷ places
with_place (Some error) place places = places

-- the places of the askings that have no error
abbrev pub made_places : List Asked → List ℕ
made_places [] = []
made_places (asked ∷ askings) = with_place asked.error asked.place (made_places askings)

-- If a block was refused, its store counted a refusal from the one number to the other.
abbrev pub IsOfStore : List ℕ → ℕ → ℕ → Asked → Type 0
IsOfStore bounds old new asked = asked.place + 1 < length bounds → asked.error ≡ Some make.Refused → CountsMore old new

-- The head is that of the run of the place's block.
pub record IsHeadOfBlock (texts : List NamedText) (stop : List (List ℕ)) (bounds : List ℕ) (place : ℕ) (head : RunHead) : Type 0 where
  pub run : RunValue
  pub of_block : IsRunOfBlock texts stop bounds place run
  pub headed : heading_of head ≡ heading_shown run

module _ {T : Type 0} where
  abbrev pub asked_of_saving : SavingMaker T → List Asked
  asked_of_saving maker = maker.inverter.asked.items

  abbrev pub store_of : SavingMaker T → T
  store_of maker = maker.store

  -- for how many further askings it has room
  abbrev pub room_of : SavingMaker T → ℕ
  room_of maker = vec_capacity maker.inverter.asked - vec_len maker.inverter.asked

  -- a head that the maker may give for a place
  abbrev pub GivesHead : SavingMaker T → ℕ → RunHead → Type 0
  GivesHead maker place head = IsHeadOfBlock (map named_text maker.inverter.docs.now) maker.inverter.stop.now maker.inverter.bounds.now place head

  -- The maker makes the blocks of these texts between these bounds, under this stop set.
  abbrev pub IsSavingMakerOf : List NamedText → List (List ℕ) → List ℕ → SavingMaker T → Type 0
  IsSavingMakerOf texts stop bounds maker = IsMakerOf texts stop bounds maker.inverter

module _ {T : Type 0} (places : T → List ℕ) (refusals : T → ℕ) (back : T → ℕ → List ℕ → Type 0) where
  -- The same store, which has saved these places too.
  pub record HasSaved (old new : T) (more : List ℕ) : Type 0 where
    pub saved : places new ≡ places old ++ more
    pub counted : refusals old ≤ refusals new
    pub keeps : (place : ℕ) (bytes : List ℕ) → back new place bytes ↔ back old place bytes

  -- The same blocks.
  pub record MakesSame (old new : SavingMaker T) : Type 0 where
    pub docs : new.inverter.docs.now ≡ old.inverter.docs.now
    pub stop : new.inverter.stop.now ≡ old.inverter.stop.now
    pub bounds : new.inverter.bounds.now ≡ old.inverter.bounds.now

  -- The same maker, later: its store has saved the places of the new askings that have no error, and refused a block where the maker did.
  pub record StaysSavingMaker (old new : SavingMaker T) : Type 0 where
    pub same : MakesSame old new
    pub grown : new.inverter.asked.items ≡ old.inverter.asked.items ++ gained old.inverter.asked.items new.inverter.asked.items
    pub store : HasSaved old.store new.store (made_places (gained old.inverter.asked.items new.inverter.asked.items))
    pub caused : All (IsOfStore old.inverter.bounds.now (refusals old.store) (refusals new.store)) (gained old.inverter.asked.items new.inverter.asked.items)
