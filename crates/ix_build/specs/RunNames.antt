-- The names of the files in which runs are kept.
use Rattle.std.specs.Prelude.{◌≡◌, ◌⊎◌, ◌↔◌, ◌<◌, ◌-◌, ℕ, List, ◌++◌, length, codes, decimal, replicate, Some, slice_get}
use Rattle.ix_files.specs.Slots.{IsAmong, Nothing, Place}
use Rattle.ix_files.specs.Views.{View}
use Rattle.ix_text.specs.Collections.{NamedText}
use Rattle.ix_build.specs.Blocks.{IsBlockPlace}
use Rattle.ix_build.specs.Plans.{PlanValue}

-- the number in ten digits, or in more if it has more
abbrev pub ten_digits : ℕ → List ℕ
ten_digits number = replicate (10 - length (decimal number)) 48 ++ decimal number

-- the name of the file of the run of a place
abbrev pub run_name : ℕ → List ℕ
run_name place = codes "run-" ++ ten_digits place

-- the same, in this folder
abbrev pub run_place : List ℕ → ℕ → Place
run_place folder place = record { folder = folder; name = run_name place }

-- names as runs are called, in one folder, by place
abbrev pub AreRunNames : List ℕ → List Place → Type 0
AreRunNames folder names = (k : ℕ) (name : Place) → slice_get names k ≡ Some name → name ≡ run_place folder k

-- The place is the name of a run of this plan.
pub record IsRunOf (plan : PlanValue) (texts : List NamedText) (view : View) (place : Place) : Type 0 where
  pub folder : List ℕ
  pub is_folder : plan.folder ≡ Some folder
  pub block : ℕ
  pub of_block : IsBlockPlace plan.cut texts block
  pub named : place ≡ run_place (view.folder folder) block

-- They are the names of all runs of this plan.
abbrev pub AreRunNamesOf : PlanValue → List NamedText → View → List Place → Type 0
AreRunNamesOf plan texts view names = (place : Place) → IsAmong names place ↔ IsRunOf plan texts view place

-- No run of the plan is left, or the system failed.
abbrev pub HasNoRuns : PlanValue → List NamedText → View → View → Type 0
HasNoRuns plan texts old new = ((place : Place) → IsRunOf plan texts old place → (new.slots place).now ≡ Nothing) ⊎ (old.faults < new.faults)

-- The bytes may come back for a place of files that are named as runs are.
pub record MayComeBack {S : Type 0} (shared : S → List Place) (back : S → ℕ → List ℕ → Type 0) (place : ℕ) (bytes : List ℕ) : Type 0 where
  pub files : S
  pub folder : List ℕ
  pub named : AreRunNames folder (shared files)
  pub came : back files place bytes
