-- What the steps of a script do, one after another: what is published, what waits to be, and what is answered.
use Rattle.std.specs.Prelude.{◌≡◌, ◌<◌, Bool, true, false, List, [], ◌∷◌, ◌++◌, length}
use Rattle.std.specs.List.{list_any}
use Rattle.ix_text.specs.Collections.{Document, NamedText}
use Rattle.ix_text.specs.CollectionText.{IsCollectionText}
use Rattle.ix_live.specs.Growing.{documents_under}
use Rattle.ix_live.specs.Operations.{Operation, Remove as Removal, addition_of, documents_added}
use Rattle.ix_script.specs.Answers.{IsAnswer}
use Rattle.ix_script.specs.Steps.{Add, Ask, Publish, Remove, Step, Text}

-- the operations that are published, and those that wait for the next publish
pub record Progress : Type 0 where
  pub published : List Operation
  pub pending : List Operation

-- more operations that wait
abbrev pub waiting : Progress → List Operation → Progress
waiting progress operations = record { published = progress.published; pending = progress.pending ++ operations }

-- all that waits is published
abbrev pub published : Progress → Progress
published progress = record { published = progress.published ++ progress.pending; pending = [] }

-- all documents so far, published or not
abbrev pub documents_in : Progress → List Document
documents_in progress = documents_added (progress.published ++ progress.pending)

-- a query by its text, and the names that were found
pub record Answered : Type 0 where
  pub query : Text
  pub names : List Text

-- The file of this path holds the collection text of these documents.
pub record HoldsDocuments (holds : Text → Text → Type 0) (path : Text) (documents : List NamedText) : Type 0 where
  pub text : Text
  pub held : holds path text
  pub read : IsCollectionText text documents

-- What one step does under a stop list: an addition and a removal wait for the next publish, and a query is answered from
-- what is published alone.
abbrev pub Does : (Text → Text → Type 0) → List Text → Step → Progress → Progress → List Answered → Type 0
Does holds stop (Add path) before after answers =
    (documents : List NamedText) × HoldsDocuments holds path documents
    × (after ≡ waiting before (addition_of (documents_under stop documents))) × (answers ≡ [])
Does holds stop Publish before after answers = (after ≡ published before) × (answers ≡ [])
Does holds stop (Ask query tree) before after answers =
    (names : List Text) × IsAnswer stop before.published tree names
    × (after ≡ before) × (answers ≡ record { query = query; names = names } ∷ [])
Does holds stop (Remove number) before after answers =
    (number < length (documents_in before)) × (after ≡ waiting before (Removal number ∷ [])) × (answers ≡ [])

-- what steps do, one after another
abbrev pub Runs : (Text → Text → Type 0) → List Text → List Step → Progress → Progress → List Answered → Type 0
Runs holds stop [] before after answers = (after ≡ before) × (answers ≡ [])
Runs holds stop (step ∷ steps) before after answers =
    (between : Progress) × (first : List Answered) × (rest : List Answered) × Does holds stop step before between first
    × Runs holds stop steps between after rest × (answers ≡ first ++ rest)

-- there is a name
abbrev pub is_some_name : List Text → Bool
is_some_name [] = false
is_some_name (name ∷ names) = true

-- some query found a document
abbrev pub some_found : List Answered → Bool
some_found answers = list_any (λ answered. is_some_name answered.names) answers

-- ---- additions and removals alone

-- what the additions and removals among the steps of a group do
abbrev pub Changes : (Text → Text → Type 0) → List Text → List Step → Progress → Progress → Type 0
Changes holds stop [] before after = after ≡ before
Changes holds stop (Add path ∷ steps) before after = (between : Progress) × Does holds stop (Add path) before between [] × Changes holds stop steps between after
Changes holds stop (Publish ∷ steps) before after = ⊥
Changes holds stop (Ask query tree ∷ steps) before after = Changes holds stop steps before after
Changes holds stop (Remove number ∷ steps) before after = (between : Progress) × Does holds stop (Remove number) before between [] × Changes holds stop steps between after
