-- What comes of a script that is carried out on a new live index, and of one that is stopped on the way.
use Rattle.std.specs.Prelude.{◌≡◌, ℕ, ◌⊎◌, Bool, List, [], ◌∷◌, ◌++◌, Option}
use Rattle.std.specs.Io.KnownBytes.{Appends}
use Rattle.ix_output.specs.Sinks.{AppendsFront}
use Rattle.ix_live.specs.declared.live_error.LiveError.TheVariants as live
use Rattle.ix_script.specs.PrintedAnswers.{lines_of}
use Rattle.ix_script.specs.Runs.{Answered, Progress, Runs, some_found}
use Rattle.ix_script.specs.Steps.{Publish, Step, Text}
use Rattle.ix_script.specs.Stops.{RefusesChanges}
use Rattle.ix_script.specs.declared.run_error.RunError.{RunError}
use Rattle.ix_script.specs.declared.run_error.RunError.TheVariants.{Live, Memory, Write}

-- a live index that nothing was done to
abbrev pub nothing_yet : Progress
nothing_yet = record { published = []; pending = [] }

-- The steps were carried out one after another on a new live index, the output gained the lines of the answers and nothing
-- else, and the result says whether a name is among them.
pub record IsCarriedOut (holds : Text → Text → Type 0) (stop : List Text) (steps : List Step) (old new : Option Text) (found : Bool) : Type 0 where
  pub after : Progress
  pub answers : List Answered
  pub ran : Runs holds stop steps nothing_yet after answers
  pub printed : Appends old new (lines_of answers)
  pub found_is : found ≡ some_found answers

-- the steps are none, or their last one publishes
abbrev pub ArePublished : List Step → Type 0
ArePublished steps = (steps ≡ []) ⊎ ((earlier : List Step) × (steps ≡ earlier ++ Publish ∷ []))

-- what is before these steps ends with a group: a publish is the first of them, or there are none
abbrev pub AreBehindGroup : List Step → Type 0
AreBehindGroup rest = (rest ≡ []) ⊎ ((later : List Step) × (rest ≡ Publish ∷ later))

-- Why the steps behind those that were carried out were not: out of memory; an addition or a removal before the next
-- publish failed; the publish that comes next did; or the answers of the last group, which was carried out whole, could not be
-- written.
pub data IsReason (holds : Text → Text → Type 0) (workers : ℕ) (stop : List Text) (done rest : List Step) (now : Progress) (error : RunError) : Type 0 where
  lacking : error ≡ Memory → ArePublished done → IsReason holds workers stop done rest now error
  refused : ArePublished done → RefusesChanges holds workers stop rest now error → IsReason holds workers stop done rest now error
  unpublished : error ≡ Live live.Memory → (later : List Step) → rest ≡ Publish ∷ later → IsReason holds workers stop done rest now error
  unwritten : error ≡ Write → AreBehindGroup rest → IsReason holds workers stop done rest now error

-- what the output gained: the lines, or a prefix of them if it failed
abbrev pub IsPrinted : Text → Option Text → Option Text → RunError → Type 0
IsPrinted lines old new Write = AppendsFront old new lines
IsPrinted lines old new _ = Appends old new lines

-- Some steps from the front were carried out one after another on a new live index, and the others were not, for this error;
-- what the output gained is what these come to.
pub record IsStopped (holds : Text → Text → Type 0) (workers : ℕ) (stop : List Text) (steps : List Step) (old new : Option Text) (error : RunError) : Type 0 where
  pub done : List Step
  pub rest : List Step
  pub now : Progress
  pub answers : List Answered
  pub cut : steps ≡ done ++ rest
  pub ran : Runs holds stop done nothing_yet now answers
  pub printed : IsPrinted (lines_of answers) old new error
  pub reason : IsReason holds workers stop done rest now error
