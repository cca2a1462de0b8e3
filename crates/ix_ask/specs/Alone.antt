-- What the calling thread alone answers and indexes, and why it does not.
use Rattle.std.specs.Prelude.{◌≡◌, ℕ, List, length}
use Rattle.ix_text.specs.Collections.{NamedText, collection_of}
use Rattle.ix_text.specs.CollectionText.{IsCollectionText}
use Rattle.ix_file.specs.IndexText.{IsIndexText}
use Rattle.ix_file.specs.Sections.{FrontCoded}
use Rattle.ix_query.specs.Tree.{Tree}
use Rattle.ix_query.specs.Machine.{query_of}
use Rattle.ix_query.specs.QueryErrors.{Fails}
use Rattle.ix_query.specs.Scans.{IsScan}
use Rattle.ix_ask.specs.Asking.{IsCollection, RefusesCollection}
use Rattle.ix_ask.specs.NameLines.{name_lines, names_read}
use Rattle.ix_ask.specs.declared.refusal.EngineRefusal.{EngineRefusal}
use Rattle.ix_ask.specs.declared.refusal.EngineRefusal.TheVariants as engine

-- The lines are the names of exactly the documents that satisfy the query, and `count` is how many.
pub record AreNamed (stop : List (List ℕ)) (query : Tree) (documents : List NamedText) (lines : List ℕ) (count : ℕ) : Type 0 where
  pub numbers : List ℕ
  pub scanned : IsScan (collection_of stop documents) query numbers
  pub named : lines ≡ name_lines (names_read documents) numbers
  pub counted : count ≡ length numbers

-- The text is a collection text, and this is the index text, of version 2, of its collection without the stop terms.
pub record IsIndexOfText (text : List ℕ) (stop : List (List ℕ)) (index : List ℕ) : Type 0 where
  pub documents : List NamedText
  pub read : IsCollectionText text documents
  pub spelled : IsIndexText FrontCoded (collection_of stop documents) index

-- Why there is no answer: the bytes are no collection text, the text is no query, or memory ran out.
abbrev pub RefusesQuestion : List ℕ → List (List ℕ) → List ℕ → EngineRefusal → Type 0
RefusesQuestion text stop query (engine.Collection error) = RefusesCollection text error
RefusesQuestion text stop query (engine.Query error) = IsCollection text × Fails error (query_of stop query)
RefusesQuestion text stop query engine.Memory = Unit {0}
RefusesQuestion text stop query _ = ⊥

-- Why there is no index text: the bytes are no collection text, or memory ran out.
abbrev pub RefusesIndexing : List ℕ → EngineRefusal → Type 0
RefusesIndexing text (engine.Collection error) = RefusesCollection text error
RefusesIndexing text engine.Memory = Unit {0}
RefusesIndexing text _ = ⊥
