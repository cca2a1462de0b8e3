-- Scans: the documents of a collection that a query asks for (IIR 1.3).
use Rattle.std.specs.Prelude.{◌≡◌, ◌↔◌, ℕ, List, Some, slice_get, Contains}
use Rattle.std.specs.List.Sorted.{IsStrictlyIncreasing}
use Rattle.ix_text.specs.Collections.{Collection, Document}
use Rattle.ix_query_text.specs.declared.tree.Tree.{Tree}
use Rattle.ix_query.specs.Satisfaction.{Satisfies}

-- there is a document of that number, and its token list satisfies the query
pub record SatisfiesAt (collection : Collection) (query : Tree) (number : ℕ) : Type 0 where
  pub document : Document
  pub numbered : slice_get collection.documents number ≡ Some document
  pub satisfied : Satisfies document.tokens query

-- the numbers of all documents that satisfy the query, ascending
pub record IsScan (collection : Collection) (query : Tree) (numbers : List ℕ) : Type 0 where
  pub ascending : IsStrictlyIncreasing numbers
  pub exact : (number : ℕ) → Contains numbers number ↔ SatisfiesAt collection query number
