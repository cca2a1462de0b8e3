-- What building over stores comes to.
use Rattle.std.specs.Prelude.{ℕ, ◌<◌, ◌⊎◌, List, length, Option}
use Rattle.std.specs.Io.KnownBytes.{Keeps}
use Rattle.ix_text.specs.Collections.{NamedText}
use Rattle.ix_build.specs.Blocks.{AreBlocks, IsBlockPlace}
use Rattle.ix_build.specs.Stores.{AreSaved, AreSavedInPart, HasRefused, IsLowestUnsaved, new_places}
use Rattle.ix_build.specs.declared.build_error.BuildError.{BuildError}
use Rattle.ix_build.specs.declared.build_error.BuildError.TheVariants.{Thread, Spill, Write, Memory}
use Rattle.ix_build.specs.declared.plan.Cut.{Cut}

module _ {T : Type 0} (places : T → List ℕ) (refusals : T → ℕ) (back : T → ℕ → List ℕ → Type 0) where
  -- Each block's place was saved once, by one store, and each store began with its own.
  pub record AreBlocksSaved (cut : Cut) (texts : List NamedText) (before after : List T) : Type 0 where
    pub blocks : List (List NamedText)
    pub of_cut : AreBlocks cut texts blocks
    pub saved : AreSaved places refusals back before (length blocks) after

  -- The run of this place was not saved, while that of each lower one was: a store has refused, and nothing was written.
  pub record IsUnsaved (stores after : List T) (place : ℕ) (before now : Option (List ℕ)) : Type 0 where
    pub in_part : AreSavedInPart places refusals back stores after
    pub lowest : IsLowestUnsaved (new_places places stores after) place
    pub refused : HasRefused refusals stores after
    pub unwritten : Keeps before now

  -- What an error tells. After `Thread` nothing is said of the stores. The place of `Spill` is the lowest one whose run was
  -- not saved, or else all were saved, and its run was not given back. After `Write` all were saved, and after `Memory` none
  -- saved a place that another did.
  abbrev pub FailsOver : Cut → List NamedText → List T → List T → Option (List ℕ) → Option (List ℕ) → BuildError → Type 0
  FailsOver cut texts stores after before now (Thread worker) = (worker < length stores) × Keeps before now
  FailsOver cut texts stores after before now (Spill place) = IsBlockPlace cut texts place × (IsUnsaved stores after place before now ⊎ AreBlocksSaved cut texts stores after)
  FailsOver cut texts stores after before now Write = AreBlocksSaved cut texts stores after
  FailsOver cut texts stores after before now Memory = AreSavedInPart places refusals back stores after
