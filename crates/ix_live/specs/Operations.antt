-- What is done to a live index, and what comes of it: a collection, and which of its documents are removed.
use Rattle.std.specs.Prelude.{ℕ, List, [], ◌∷◌, flat_map}
use Rattle.ix_text.specs.Collections.{Collection, Document}

-- documents are added behind all others, or the document of a number is removed
pub data Operation : Type 0 where
  Add : List Document → Operation
  Remove : ℕ → Operation

-- the addition of documents, or nothing if there are none
abbrev pub addition_of : List Document → List Operation
addition_of [] = []
addition_of (document ∷ documents) = Add (document ∷ documents) ∷ []

-- the documents that an operation adds
abbrev pub added : Operation → List Document
added (Add documents) = documents
added (Remove number) = []

-- the number that it removes, or none
abbrev pub removed : Operation → List ℕ
removed (Add documents) = []
removed (Remove number) = number ∷ []

-- all documents that operations add, in order; a document's number is its place here, from 0
abbrev pub documents_added : List Operation → List Document
documents_added operations = flat_map added operations

-- all numbers that they remove; one may be removed twice
abbrev pub numbers_removed : List Operation → List ℕ
numbers_removed operations = flat_map removed operations

-- a collection of which some documents are removed; these keep their numbers and their names
pub record State : Type 0 where
  pub collection : Collection
  pub removed : List ℕ

-- the state after operations, under a stop set
abbrev pub state_after : List (List ℕ) → List Operation → State
state_after stop operations = record { collection = record { stop = stop; documents = documents_added operations }; removed = numbers_removed operations }
