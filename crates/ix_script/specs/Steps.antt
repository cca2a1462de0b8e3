-- Scripts of `live`: which texts are scripts, and what they ask for.
use Rattle.std.specs.Prelude.{◌≡◌, ◌≢◌, ℕ, ◌^◌, ◌<◌, ◌⊎◌, Bool, true, false, List, [], ◌∷◌, ◌++◌, All, filter, map, codes, decimal}
use Rattle.ix_text.specs.StopText.{IsCutAtLineFeeds}
use Rattle.ix_query.specs.Tree.{Tree}
use Rattle.ix_query.specs.Grammar.{Reads}
use Rattle.ix_script.specs.declared.step.Step.{Step as StepTaken}
use Rattle.ix_script.specs.declared.step.Step.TheVariants as taken

-- a text by its bytes
abbrev pub Text : Type 0
Text = List ℕ

-- What a line asks for: that the documents of a file are added, that all that is pending is published, that a query is
-- answered, or that the document of a number is removed.
pub data Step : Type 0 where
  Add : Text → Step
  Publish : Step
  Ask : Text → Tree → Step
  Remove : ℕ → Step

-- the step, as it is taken, without the memory that its texts lie in
abbrev pub step_of : StepTaken → Step
step_of (taken.Add path) = Add path.now
step_of taken.Publish = Publish
step_of (taken.Ask query tree) = Ask query.now tree
step_of (taken.Remove number) = Remove number

-- the line of a step
abbrev pub line_of : Step → Text
line_of (Add path) = codes "add " ++ path
line_of Publish = codes "publish"
line_of (Ask query tree) = codes "ask " ++ query
line_of (Remove number) = codes "remove " ++ decimal number

-- A path and a query are not empty, a query reads as its tree under the stop list, and a number is below 2^28.
abbrev pub IsLawful : List Text → Step → Type 0
IsLawful stop (Add path) = path ≢ []
IsLawful stop Publish = Unit {0}
IsLawful stop (Ask query tree) = (query ≢ []) × Reads stop query tree
IsLawful stop (Remove number) = number < 2 ^ 28

-- the line is that of this step
abbrev pub IsLineOf : List Text → Text → Step → Type 0
IsLineOf stop line step = (line ≡ line_of step) × IsLawful stop step

-- a line that is not empty
abbrev pub is_filled : Text → Bool
is_filled [] = false
is_filled (byte ∷ bytes) = true

-- The text, cut at every LF, has the lines of these steps in order, and else empty lines.
pub record IsScript (stop : List Text) (text : Text) (steps : List Step) : Type 0 where
  pub lines : List Text
  pub cut : IsCutAtLineFeeds text lines
  pub spelled : filter is_filled lines ≡ map line_of steps
  pub lawful : All (IsLawful stop) steps

-- ---- one line

-- the steps gained that of a line, or nothing if the line is empty
abbrev pub AddsLine : List Text → Text → List Step → List Step → Type 0
AddsLine stop line before after = ((line ≡ []) × (after ≡ before)) ⊎ ((step : Step) × IsLineOf stop line step × (after ≡ before ++ step ∷ []))

-- the step asks this query, which reads as a tree
abbrev pub AsksQuery : List Text → Text → Step → Type 0
AsksQuery stop query step = (tree : Tree) × (step ≡ Ask query tree) × Reads stop query tree

-- the digits are those of the number of a document
abbrev pub IsNumber : Text → ℕ → Type 0
IsNumber digits number = (number < 2 ^ 28) × (digits ≡ decimal number)

-- the digits are those of no such number
abbrev pub IsNoNumber : Text → Type 0
IsNoNumber digits = (number : ℕ) → number < 2 ^ 28 → digits ≢ decimal number

-- the line removes the document of this number
abbrev pub Removes : Text → ℕ → Type 0
Removes line number = (number < 2 ^ 28) × (line ≡ codes "remove " ++ decimal number)

-- the line removes none
abbrev pub RemovesNone : Text → Type 0
RemovesNone line = (number : ℕ) → number < 2 ^ 28 → line ≢ codes "remove " ++ decimal number
