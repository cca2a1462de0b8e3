-- What `ask` makes of the files that its line names.
use Rattle.std.specs.Prelude.{◌≡◌, ℕ, ◌⊎◌, List, [], Option, None, Some, IsSomeAnd, IsUtf8}
use Rattle.std.specs.Borrow.{Bor}
use Rattle.std.specs.Io.KnownBytes.{Keeps}
use Rattle.clap.specs.Walk.{Text}
use Rattle.ix_text.specs.StopText.{IsStopText}
use Rattle.ix_text.specs.StopFaults.{IsStopFault}
use Rattle.ix_text.specs.declared.stop.StopError.TheVariants as stop_error
use Rattle.ix_ask.specs.Asking.{IsAnswered, Leaves}
use Rattle.ix_files.specs.Reading.{Holding}
use Rattle.ix_command.specs.Refusals.{IsUnread, Tells}
use Rattle.ix_ask.specs.declared.ask_error.AskError.{AskError}
use Rattle.ix_ask.specs.declared.refusal.EngineRefusal.TheVariants as engine
use Rattle.ix_command.specs.declared.refusal.Refusal.{Refusal}
use Rattle.ix_command.specs.declared.refusal.Refusal.TheVariants as refusal

-- Where a stop file is named, it is a stop text of these stop terms; else there is none.
abbrev pub IsStopHeld : Holding → Option (Bor Text) → List Text → Type 0
IsStopHeld holds None stop = stop ≡ []
IsStopHeld holds (Some path) stop = (text : Text) × holds path.now text × IsStopText text stop

-- The answer to the query, in the collection file and with the terms of the stop file, went out whole, with so many names.
pub record IsAnsweredFromFiles (holds : Holding) (stop_file : Option (Bor Text)) (path query : Text) (old new : Option Text) (count : ℕ) : Type 0 where
  pub collection : Text
  pub stop : List Text
  pub held : holds path collection
  pub stop_held : IsStopHeld holds stop_file stop
  pub answered : IsAnswered collection stop query old new count

-- The refusal tells why this text of the file of this path is no stop text, or that memory ran out.
abbrev pub IsNoStopText : Text → Text → Refusal → Type 0
IsNoStopText path text (refusal.Engine (engine.Stop error)) = (error ≡ stop_error.Memory) ⊎ IsStopFault text error
IsNoStopText path text (refusal.NotUtf8 named) = (named.now ≡ path) × ¬ (IsUtf8 text)
IsNoStopText path text _ = ⊥

-- The refusal tells why the file of this path gives no stop terms: it cannot be read, or is no stop text.
abbrev pub RefusesStop : Holding → Text → Refusal → Type 0
RefusesStop holds path told = IsUnread path told ⊎ ((text : Text) × holds path text × IsNoStopText path text told)

-- The question to this collection text, by so many workers, was refused, as the refusal tells, and leaves this of the
-- standard output.
pub record IsQuestionRefused (workers : ℕ) (text : Text) (stop : List Text) (query : Text) (old new : Option Text) (told : Refusal) : Type 0 where
  pub error : AskError
  pub tells : Tells error told
  pub leaves : Leaves workers text stop query old new error

-- Why `ask` was refused, by so many workers, and what it leaves of the standard output: the stop file is refused, the
-- collection file cannot be read, or the question is refused.
pub data IsAskRefused (holds : Holding) (stop_file : Option (Bor Text)) (workers : ℕ) (path query : Text) (old new : Option Text) : Refusal → Type 0 where
  no_stop_list : {told : Refusal} → IsSomeAnd stop_file (λ named. RefusesStop holds named.now told) → Keeps old new → IsAskRefused holds stop_file workers path query old new told
  no_file : {told : Refusal} → IsUnread path told → Keeps old new → IsAskRefused holds stop_file workers path query old new told
  no_answer : {told : Refusal} (text : Text) (stop : List Text) → holds path text → IsStopHeld holds stop_file stop → IsQuestionRefused workers text stop query old new told → IsAskRefused holds stop_file workers path query old new told
