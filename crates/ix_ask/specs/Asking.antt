-- What it means that a question to a collection text was answered, and what a refusal leaves.
use Rattle.std.specs.Prelude.{◌≡◌, ◌≢◌, ℕ, ◌⊎◌, List, length, Option}
use Rattle.std.specs.Io.KnownBytes.{Appends, Keeps}
use Rattle.ix_text.specs.CollectionText.{IsCollectionText}
use Rattle.ix_text.specs.CollectionFaults.{IsCollectionFault}
use Rattle.ix_text.specs.Collections.{NamedText, collection_of}
use Rattle.ix_output.specs.Sinks.{AppendsFront}
use Rattle.ix_query.specs.Tree.{Tree}
use Rattle.ix_query.specs.Grammar.{Reads}
use Rattle.ix_query.specs.Scans.{IsScan}
use Rattle.ix_query.specs.Machine.{query_of}
use Rattle.ix_text.specs.declared.collection.CollectionError.{CollectionError}
use Rattle.ix_text.specs.declared.collection.CollectionError.TheVariants as collection
use Rattle.ix_query.specs.QueryErrors.{Fails}
use Rattle.ix_build.specs.BuildErrors.{IsBuildRefusal}
use Rattle.ix_build.specs.declared.build_error.BuildError.{BuildError}
use Rattle.ix_build.specs.declared.build_error.BuildError.TheVariants as build_error
use Rattle.ix_file.specs.declared.open_error.OpenError.TheVariants as open_error
use Rattle.ix_ask.specs.NameLines.{name_lines, names_read}
use Rattle.ix_ask.specs.declared.ask_error.AskError.{AskError}
use Rattle.ix_ask.specs.declared.ask_error.AskError.TheVariants as asking

-- The query reads as a tree, and these are the numbers of exactly the documents that satisfy it, ascending.
pub record AreFound (stop : List (List ℕ)) (query : List ℕ) (documents : List NamedText) (numbers : List ℕ) : Type 0 where
  pub tree : Tree
  pub parsed : Reads stop query tree
  pub scanned : IsScan (collection_of stop documents) tree numbers

-- The lines are the names of exactly the documents of the collection text that satisfy the query, and `count` is how many.
pub record IsAnswer (text : List ℕ) (stop : List (List ℕ)) (query lines : List ℕ) (count : ℕ) : Type 0 where
  pub documents : List NamedText
  pub numbers : List ℕ
  pub read : IsCollectionText text documents
  pub found : AreFound stop query documents numbers
  pub named : lines ≡ name_lines (names_read documents) numbers
  pub counted : count ≡ length numbers

-- The answer went out whole.
pub record IsAnswered (text : List ℕ) (stop : List (List ℕ)) (query : List ℕ) (old new : Option (List ℕ)) (count : ℕ) : Type 0 where
  pub lines : List ℕ
  pub answer : IsAnswer text stop query lines count
  pub written : Appends old new lines

-- A beginning of the answer went out.
pub record IsCutShort (text : List ℕ) (stop : List (List ℕ)) (query : List ℕ) (old new : Option (List ℕ)) : Type 0 where
  pub lines : List ℕ
  pub count : ℕ
  pub answer : IsAnswer text stop query lines count
  pub front : AppendsFront old new lines

-- The bytes are no collection text, and this is their fault; or memory ran out.
abbrev pub RefusesCollection : List ℕ → CollectionError → Type 0
RefusesCollection text error = (error ≡ collection.Memory) ⊎ IsCollectionFault text error

-- The bytes are a collection text.
abbrev pub IsCollection : List ℕ → Type 0
IsCollection text = (documents : List NamedText) × IsCollectionText text documents

-- the error of a build of an index in memory, as that of a question
abbrev pub error_of_build : BuildError → AskError
error_of_build build_error.Write = asking.Memory
error_of_build error = asking.Build error

-- Why an index of documents gave no numbers: so many workers did not build it, for no refused write, or memory ran out.
abbrev pub RefusesIndex : ℕ → AskError → Type 0
RefusesIndex workers (asking.Build error) = IsBuildRefusal workers error × (error ≢ build_error.Write)
RefusesIndex workers (asking.Open error) = error ≡ open_error.Memory
RefusesIndex workers asking.Memory = Unit {0}
RefusesIndex workers _ = ⊥

-- Why there is no answer, before anything was written.
abbrev pub Refuses : ℕ → List ℕ → List (List ℕ) → List ℕ → AskError → Type 0
Refuses workers text stop query (asking.Collection error) = RefusesCollection text error
Refuses workers text stop query (asking.Query error) = IsCollection text × Fails error (query_of stop query)
Refuses workers text stop query error = RefusesIndex workers error

-- Why a question was refused, by so many workers, and what went out.
abbrev pub Leaves : ℕ → List ℕ → List (List ℕ) → List ℕ → Option (List ℕ) → Option (List ℕ) → AskError → Type 0
Leaves workers text stop query old new asking.Write = IsCutShort text stop query old new
Leaves workers text stop query old new error = Refuses workers text stop query error × Keeps old new
