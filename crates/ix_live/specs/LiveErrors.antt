-- The errors of operations on a live index: their numbers, their names, as they are printed, and when each one comes.
use Rattle.std.specs.Prelude.{◌≡◌, ◌≢◌, ℕ, ◌+◌, ◌^◌, ◌<◌, ◌≤◌, ◌⊎◌, List, ◌++◌, length, codes, decimal}
use Rattle.ix_text.specs.Collections.{Document}
use Rattle.ix_build.specs.BuildErrors.{IsBuildRefusal, build_error_name}
use Rattle.ix_build.specs.declared.build_error.BuildError.{BuildError}
use Rattle.ix_build.specs.declared.build_error.BuildError.TheVariants.{Write}
use Rattle.ix_live.specs.Growing.{tokens_of}
use Rattle.ix_live.specs.Operations.{Operation, documents_added}
use Rattle.ix_live.specs.declared.live_error.LiveError.{LiveError}
use Rattle.ix_live.specs.declared.live_error.LiveError.TheVariants.{Build, TooLarge, Memory, Number}

-- an error's place in the list of these errors, from 1
abbrev pub live_error_number : LiveError → ℕ
live_error_number (Build error) = 1
live_error_number TooLarge = 2
live_error_number Memory = 3
live_error_number (Number document) = 4

-- the name of an error, with the error of the building or the number in brackets
abbrev pub live_error_name : LiveError → List ℕ
live_error_name (Build error) = codes "Build(" ++ (build_error_name error ++ codes ")")
live_error_name TooLarge = codes "TooLarge"
live_error_name Memory = codes "Memory"
live_error_name (Number document) = codes "Number(" ++ (decimal document ++ codes ")")

-- the error of building into memory as that of a live index: a failed write is out of memory
abbrev pub told_of_build : BuildError → LiveError
told_of_build Write = Memory
told_of_build error = Build error

-- this many workers did not build documents into memory for this reason, which is no failed write
abbrev pub RefusesBuilding : ℕ → BuildError → Type 0
RefusesBuilding workers error = IsBuildRefusal workers error × (error ≢ Write)

-- documents are not built by this many workers
abbrev pub IsOfBuilding : ℕ → LiveError → Type 0
IsOfBuilding workers (Build error) = RefusesBuilding workers error
IsOfBuilding workers TooLarge = ⊥
IsOfBuilding workers Memory = Unit {0}
IsOfBuilding workers (Number document) = ⊥

-- documents are not added by this many workers to a number of documents with a number of tokens for this reason: they
-- would be too many; or they are few enough, and are not built, or have too many tokens, or the call was out of memory
abbrev pub RefusesDocuments : ℕ → ℕ → ℕ → List Document → LiveError → Type 0
RefusesDocuments workers count tokens documents (Build error) = (count + length documents ≤ 2 ^ 28) × RefusesBuilding workers error
RefusesDocuments workers count tokens documents TooLarge = (2 ^ 28 < count + length documents) ⊎ (2 ^ 28 < tokens + tokens_of documents)
RefusesDocuments workers count tokens documents Memory = count + length documents ≤ 2 ^ 28
RefusesDocuments workers count tokens documents (Number document) = ⊥

-- documents are not added by this many workers behind those of operations for this reason
abbrev pub RefusesAddition : ℕ → List Operation → List Document → LiveError → Type 0
RefusesAddition workers operations documents = RefusesDocuments workers (length (documents_added operations)) (tokens_of (documents_added operations)) documents

-- a number is not removed from this many documents for this reason: there is none of that number, or there is one and the
-- call was out of memory
abbrev pub RefusesRemoval : ℕ → ℕ → LiveError → Type 0
RefusesRemoval count number (Build error) = ⊥
RefusesRemoval count number TooLarge = ⊥
RefusesRemoval count number Memory = number < count
RefusesRemoval count number (Number document) = (document ≡ number) × (count ≤ number)
