-- Archives: what a folder of segments stands for, and what a query finds there.
use Rattle.std.specs.Prelude.{◌≡◌, ℕ, List, flat_map, length, slice_get, Some}
use Rattle.ix_text.specs.Collections.{Collection, Document}
use Rattle.ix_query_text.specs.Grammar.{Reads}
use Rattle.ix_query_text.specs.declared.tree.Tree.{Tree}
use Rattle.ix_scan.specs.ScansWithout.{IsScanWithout, of_documents}
use Rattle.ix_ask.specs.NameLines.{name_lines, names_indexed}
use Rattle.ix_removals.specs.RemovalsText.{Removal, IsRemoved}

-- A stop set, all documents in order, and what was removed. The number of a document is its place here, from 0; there may be
-- more documents than one collection can have.
pub record Archive : Type 0 where
  pub stop : List (List ℕ)
  pub documents : List Document
  pub removals : List Removal

-- lists one behind another
abbrev pub joined : {X : Type 0} → List (List X) → List X
joined lists = flat_map (λ list. list) lists

-- The document of that number is removed.
pub record IsGone (archive : Archive) (number : ℕ) : Type 0 where
  pub document : Document
  pub numbered : slice_get archive.documents number ≡ Some document
  pub removed : IsRemoved archive.removals document.name number

-- all documents, removed ones too, as a collection, which need not be a lawful one
abbrev pub collection_in : Archive → Collection
collection_in archive = of_documents archive.stop archive.documents

-- the numbers of the documents that satisfy the query and are not removed, ascending
abbrev pub IsArchiveScan : Archive → Tree → List ℕ → Type 0
IsArchiveScan archive query numbers = IsScanWithout (collection_in archive) (IsGone archive) query numbers

-- The query reads as a tree under the stop set, the lines are the names of exactly the documents that satisfy it and are not
-- removed, and `count` is how many.
pub record IsArchiveFound (archive : Archive) (query lines : List ℕ) (count : ℕ) : Type 0 where
  pub tree : Tree
  pub numbers : List ℕ
  pub parsed : Reads archive.stop query tree
  pub scanned : IsArchiveScan archive tree numbers
  pub named : lines ≡ name_lines (names_indexed archive.documents) numbers
  pub counted : count ≡ length numbers
