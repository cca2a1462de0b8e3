-- A text has one list of documents or one fault, and never both.
use Rattle.std.specs.Prelude.{◌≡◌, ℕ, ◌⊎◌, List}
use Rattle.ix_text.specs.Collections.{NamedText}
use Rattle.ix_text.specs.CollectionText.{IsCollectionText}
use Rattle.ix_text.specs.CollectionFaults.{IsCollectionFault}
use Rattle.ix_text.specs.declared.collection.CollectionError.{CollectionError}

-- a text is the collection text of one list of documents at most
abbrev pub HasOneListOfDocuments : Type 0
HasOneListOfDocuments = (text : List ℕ) (one other : List NamedText) → IsCollectionText text one → IsCollectionText text other → one ≡ other

-- a text has one fault at most
abbrev pub HasOneFault : Type 0
HasOneFault = (text : List ℕ) (one other : CollectionError) → IsCollectionFault text one → IsCollectionFault text other → one ≡ other

-- a text that has a fault is the collection text of no documents
abbrev pub FaultsExcludeDocuments : Type 0
FaultsExcludeDocuments = (text : List ℕ) (documents : List NamedText) (fault : CollectionError) → IsCollectionFault text fault → ¬ (IsCollectionText text documents)

-- each text is the collection text of some documents, or has a fault
abbrev pub HasDocumentsOrFault : Type 0
HasDocumentsOrFault = (text : List ℕ) → ((documents : List NamedText) × IsCollectionText text documents) ⊎ ((fault : CollectionError) × IsCollectionFault text fault)
