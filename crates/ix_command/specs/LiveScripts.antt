-- What `live` makes of the files that its line names.
use Rattle.std.specs.Prelude.{◌≡◌, ℕ, Bool, List, Option, IsSomeAnd, IsUtf8, if◌then◌else◌}
use Rattle.std.specs.Borrow.{Bor}
use Rattle.std.specs.Io.KnownBytes.{Keeps}
use Rattle.clap.specs.Walk.{Text}
use Rattle.ix_script.specs.ScriptFaults.{IsScriptFault}
use Rattle.ix_script.specs.Scripts.{IsCarriedOut, IsStopped}
use Rattle.ix_script.specs.Steps.{IsScript, Step}
use Rattle.ix_script.specs.declared.run_error.RunError.{RunError}
use Rattle.ix_command.specs.AskedFiles.{IsStopHeld, RefusesStop}
use Rattle.ix_files.specs.Reading.{Holding}
use Rattle.ix_command.specs.Refusals.{IsUnread, TellsStep}
use Rattle.ix_ask.specs.declared.refusal.EngineRefusal.TheVariants as engine
use Rattle.ix_command.specs.declared.refusal.Refusal.{Refusal}
use Rattle.ix_command.specs.declared.refusal.Refusal.TheVariants as refusal

-- The file of this path holds a script of these steps, under the stop terms of the stop file.
pub record IsScriptHeld (holds : Holding) (stop_file : Option (Bor Text)) (path : Text) (stop : List Text) (steps : List Step) : Type 0 where
  pub text : Text
  pub held : holds path text
  pub stop_held : IsStopHeld holds stop_file stop
  pub script : IsScript stop text steps

-- 1 where a name was found, and 0 where none was
abbrev pub found_count : Bool → ℕ
found_count found = if found then 1 else 0

-- The steps were carried out over these files, their answers went out whole, and it is told whether a name was found.
pub record IsCarriedOutTold (holds : Holding) (stop : List Text) (steps : List Step) (old new : Option Text) (count : ℕ) : Type 0 where
  pub found : Bool
  pub carried_out : IsCarriedOut holds stop steps old new found
  pub count_is : count ≡ found_count found

-- So were the steps of the script file, with the terms of the stop file.
pub record IsLived (holds : Holding) (stop_file : Option (Bor Text)) (path : Text) (old new : Option Text) (count : ℕ) : Type 0 where
  pub stop : List Text
  pub steps : List Step
  pub held : IsScriptHeld holds stop_file path stop steps
  pub done : IsCarriedOutTold holds stop steps old new count

-- The refusal tells why this text of the file of this path is no script, or that memory ran out.
abbrev pub IsNoScript : List Text → Text → Text → Refusal → Type 0
IsNoScript stop path text (refusal.Script error) = IsScriptFault stop text error
IsNoScript stop path text (refusal.NotUtf8 named) = (named.now ≡ path) × ¬ (IsUtf8 text)
IsNoScript stop path text (refusal.Engine engine.Memory) = Unit {0}
IsNoScript stop path text _ = ⊥

-- The steps were stopped on the way, by so many workers, as the refusal tells, and this is left of the standard output.
pub record IsStoppedTold (holds : Holding) (workers : ℕ) (stop : List Text) (steps : List Step) (old new : Option Text) (told : Refusal) : Type 0 where
  pub error : RunError
  pub tells : TellsStep error told
  pub stopped : IsStopped holds workers stop steps old new error

-- Why `live` was refused, by so many workers, and what it leaves of the standard output: the stop file is refused, the script
-- file cannot be read or holds no script, or its steps were stopped on the way.
pub data IsLiveRefused (holds : Holding) (stop_file : Option (Bor Text)) (workers : ℕ) (path : Text) (old new : Option Text) : Refusal → Type 0 where
  no_stop_list : {told : Refusal} → IsSomeAnd stop_file (λ named. RefusesStop holds named.now told) → Keeps old new → IsLiveRefused holds stop_file workers path old new told
  no_file : {told : Refusal} → IsUnread path told → Keeps old new → IsLiveRefused holds stop_file workers path old new told
  no_script : {told : Refusal} (text : Text) (stop : List Text) → holds path text → IsStopHeld holds stop_file stop → IsNoScript stop path text told → Keeps old new → IsLiveRefused holds stop_file workers path old new told
  stopped : {told : Refusal} (stop : List Text) (steps : List Step) → IsScriptHeld holds stop_file path stop steps → IsStoppedTold holds workers stop steps old new told → IsLiveRefused holds stop_file workers path old new told
