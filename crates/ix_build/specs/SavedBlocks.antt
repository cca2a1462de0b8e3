-- Blocks whose runs were saved, and why they were not.
use Rattle.std.specs.Prelude.{◌≡◌, ℕ, ◌+◌, ◌<◌, List, length, Some, slice_get}
use Rattle.ix_text.specs.Collections.{NamedText}
use Rattle.ix_run.specs.RunHead.{RunHead}
use Rattle.ix_build.specs.SavingMakers.{IsHeadOfBlock}
use Rattle.ix_build.specs.Stores.{AreSavedInPart, HasRefused, IsLowestUnsaved, new_places}
use Rattle.ix_build.specs.declared.build_error.BuildError.{BuildError}
use Rattle.ix_build.specs.declared.build_error.BuildError.TheVariants.{Thread, Spill, Write, Memory}
use Rattle.ix_pool.specs.declared.maker.MakeError.{MakeError}
use Rattle.ix_pool.specs.declared.maker.MakeError.TheVariants as make

-- why the run of a place was not saved
abbrev pub unsaved_at : ℕ → MakeError → BuildError
unsaved_at place make.Refused = Spill place
unsaved_at place make.Memory = Memory

-- The heads of the runs of all blocks between the bounds, in order.
pub record AreHeadsOf (texts : List NamedText) (stop : List (List ℕ)) (bounds : List ℕ) (heads : List RunHead) : Type 0 where
  pub as_many : length heads + 1 ≡ length bounds
  pub each : (place : ℕ) (head : RunHead) → slice_get heads place ≡ Some head → IsHeadOfBlock texts stop bounds place head

module _ {T : Type 0} (places : T → List ℕ) (refusals : T → ℕ) (back : T → ℕ → List ℕ → Type 0) where
  -- What an error tells. After `Thread` nothing is said of the stores, and else none saved a place that another did; the
  -- place of `Spill` is the lowest that was not saved, and a store has refused.
  abbrev pub FailsToSave : List T → ℕ → List T → BuildError → Type 0
  FailsToSave before count after (Thread worker) = worker < length before
  FailsToSave before count after (Spill place) = (place < count) × AreSavedInPart places refusals back before after × IsLowestUnsaved (new_places places before after) place
      × HasRefused refusals before after
  FailsToSave before count after Write = ⊥
  FailsToSave before count after Memory = AreSavedInPart places refusals back before after
