-- What comes of a stretch of a script, from wherever the live index has come before it.
use Rattle.std.specs.Prelude.{◌≡◌, ℕ, Bool, List, ◌++◌, Option}
use Rattle.std.specs.Io.KnownBytes.{Appends}
use Rattle.ix_script.specs.PrintedAnswers.{lines_of}
use Rattle.ix_script.specs.Runs.{Answered, Progress, Runs, some_found}
use Rattle.ix_script.specs.Scripts.{IsPrinted, IsReason}
use Rattle.ix_script.specs.Steps.{Step, Text}
use Rattle.ix_script.specs.declared.run_error.RunError.{RunError}

-- The steps were carried out one after another, the output gained the lines of the answers and nothing else, and the result
-- says whether a name is among them.
pub record CarriesOut (holds : Text → Text → Type 0) (stop : List Text) (steps : List Step) (before after : Progress) (old new : Option Text) (found : Bool) : Type 0 where
  pub answers : List Answered
  pub ran : Runs holds stop steps before after answers
  pub printed : Appends old new (lines_of answers)
  pub found_is : found ≡ some_found answers

-- Some steps from the front were carried out one after another, and the others were not, for this error; what the output
-- gained is what these come to.
pub record Stops (holds : Text → Text → Type 0) (workers : ℕ) (stop : List Text) (steps : List Step) (before : Progress) (old new : Option Text) (error : RunError) : Type 0 where
  pub done : List Step
  pub rest : List Step
  pub now : Progress
  pub answers : List Answered
  pub cut : steps ≡ done ++ rest
  pub ran : Runs holds stop done before now answers
  pub printed : IsPrinted (lines_of answers) old new error
  pub reason : IsReason holds workers stop done rest now error
