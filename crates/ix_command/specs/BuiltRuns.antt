-- The files in which a build kept its runs.
use Rattle.std.specs.Prelude.{◌≡◌, ◌≢◌, List, Option}
use Rattle.std.specs.Borrow.{Bor}
use Rattle.clap.specs.Walk.{Text}
use Rattle.ix_text.specs.Collections.{NamedText}
use Rattle.ix_build.specs.Plans.{PlanValue}
use Rattle.ix_build.specs.RunNames.{HasNoRuns, IsRunOf}
use Rattle.ix_files.specs.Drafts.{IsDraftPlace}
use Rattle.ix_files.specs.Reading.{held_in}
use Rattle.ix_files.specs.Slots.{Place}
use Rattle.ix_files.specs.Views.{View}
use Rattle.ix_command.specs.BuiltIndexes.{AreOfFiles, IsRefusalBy}
use Rattle.ix_ask.specs.declared.refusal.EngineRefusal.TheVariants as engine
use Rattle.ix_command.specs.declared.refusal.Refusal.{Refusal}
use Rattle.ix_command.specs.declared.refusal.Refusal.TheVariants as refusal

-- No run of the plan is left, and what is at each name stays, but at that to which the path leads, at those that drafts of it may
-- have, and at those of the runs.
pub record RemovesRuns (plan : PlanValue) (documents : List NamedText) (path : Text) (old new : View) : Type 0 where
  pub others : (place : Place) → place ≢ old.place path → ¬ (IsDraftPlace (old.place path) place) → ¬ (IsRunOf plan documents old place)
      → (new.slots place).now ≡ (old.slots place).now
  pub gone : HasNoRuns plan documents old new

-- the same of the runs of the documents of the collection file
pub record LeavesNoRuns (stop_file : Option (Bor Text)) (plan : PlanValue) (path output : Text) (old new : View) : Type 0 where
  pub stop : List Text
  pub documents : List NamedText
  pub of_files : AreOfFiles (held_in old) stop_file path stop documents
  pub removes : RemovesRuns plan documents output old new

-- Why a path is not used: it leads to a run of the plan, or the folder of the runs cannot be looked at.
abbrev pub IsOfRuns : View → PlanValue → List NamedText → Text → Refusal → Type 0
IsOfRuns view plan documents path (refusal.Same named) = (named.now ≡ path) × (view.honest → IsRunOf plan documents view (view.place path))
IsOfRuns view plan documents path (refusal.Engine (engine.Build error)) = IsRefusalBy plan documents error
IsOfRuns view plan documents path _ = ⊥
