-- Answers to queries after what was published in a live index.
use Rattle.std.specs.Prelude.{ℕ, List, [], ◌∷◌, String, map}
use Rattle.std.specs.Global.{Global, Vec}
use Rattle.std.specs.String.{string_bytes}
use Rattle.ix_query.specs.Tree.{Tree}
use Rattle.ix_live.specs.Names.{AreNamesOf}
use Rattle.ix_live.specs.Operations.{Operation, documents_added, state_after}
use Rattle.ix_live.specs.StateScans.{IsStateScan}

-- These are the names of the documents that the query finds in the state after the operations, in their order.
pub record IsAnswer (stop : List (List ℕ)) (operations : List Operation) (query : Tree) (names : List (List ℕ)) : Type 0 where
  pub numbers : List ℕ
  pub scan : IsStateScan (state_after stop operations) query numbers
  pub named : AreNamesOf (documents_added operations) numbers names

-- each is the answer to the query at its place
abbrev pub AreAnswers : List (List ℕ) → List Operation → List Tree → List (List (List ℕ)) → Type 0
AreAnswers stop operations [] [] = Unit {0}
AreAnswers stop operations [] (names ∷ answers) = ⊥
AreAnswers stop operations (query ∷ queries) [] = ⊥
AreAnswers stop operations (query ∷ queries) (names ∷ answers) = IsAnswer stop operations query names × AreAnswers stop operations queries answers

-- the names in a list of texts, by their bytes
abbrev pub names_in : Vec (String Global) → List (List ℕ)
names_in names = map string_bytes names.items
