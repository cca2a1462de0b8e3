-- What it means that a question to an index was answered, and what a refusal leaves.
use Rattle.std.specs.Prelude.{◌≡◌, ℕ, List, length, Option}
use Rattle.std.specs.Io.KnownBytes.{Appends, Keeps}
use Rattle.ix_text.specs.Collections.{Collection}
use Rattle.ix_output.specs.Sinks.{AppendsFront}
use Rattle.ix_query.specs.Tree.{Tree}
use Rattle.ix_query.specs.Grammar.{Reads}
use Rattle.ix_query.specs.Machine.{query_of}
use Rattle.ix_query.specs.QueryErrors.{Fails}
use Rattle.ix_query.specs.Scans.{IsScan}
use Rattle.ix_ask.specs.NameLines.{name_lines, names_indexed}
use Rattle.ix_ask.specs.declared.ask_error.AskError.{AskError}
use Rattle.ix_ask.specs.declared.ask_error.AskError.TheVariants as asking

-- The query reads as a tree under the collection's own stop list, the lines are the names of exactly the documents that
-- satisfy it, and `count` is how many.
pub record IsFound (collection : Collection) (query lines : List ℕ) (count : ℕ) : Type 0 where
  pub tree : Tree
  pub numbers : List ℕ
  pub parsed : Reads collection.stop query tree
  pub scanned : IsScan collection tree numbers
  pub named : lines ≡ name_lines (names_indexed collection.documents) numbers
  pub counted : count ≡ length numbers

-- What was found went out whole.
pub record IsSearched (collection : Collection) (query : List ℕ) (old new : Option (List ℕ)) (count : ℕ) : Type 0 where
  pub lines : List ℕ
  pub found : IsFound collection query lines count
  pub written : Appends old new lines

-- A beginning of what was found went out.
pub record IsSearchCut (collection : Collection) (query : List ℕ) (old new : Option (List ℕ)) : Type 0 where
  pub lines : List ℕ
  pub count : ℕ
  pub found : IsFound collection query lines count
  pub front : AppendsFront old new lines

-- Why nothing was found, before anything was written: the text is no query under the collection's own stop list, with this
-- first fault, or memory ran out.
abbrev pub RefusesQuery : Collection → List ℕ → AskError → Type 0
RefusesQuery collection query (asking.Query error) = Fails error (query_of collection.stop query)
RefusesQuery collection query asking.Memory = Unit {0}
RefusesQuery collection query _ = ⊥

-- Why a question was refused, and what went out.
abbrev pub LeavesSearch : Collection → List ℕ → Option (List ℕ) → Option (List ℕ) → AskError → Type 0
LeavesSearch collection query old new (asking.Query error) = Fails error (query_of collection.stop query) × Keeps old new
LeavesSearch collection query old new asking.Write = IsSearchCut collection query old new
LeavesSearch collection query old new asking.Memory = Keeps old new
LeavesSearch collection query old new _ = ⊥
