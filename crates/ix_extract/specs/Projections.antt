-- Index texts that a source may have, and the index text of the terms that are wanted.
use Rattle.std.specs.Prelude.{◌≡◌, ℕ, List, [], Option, Some, true}
use Rattle.ix_text.specs.Collections.{Collection, HasPosting}
use Rattle.ix_index_text.specs.IndexText.{IsIndexText}
use Rattle.ix_index_text.specs.Sections.{Version, Plain}
use Rattle.ix_query_text.specs.Grammar.{Reads}
use Rattle.ix_query_text.specs.declared.tree.Tree.{Tree}
use Rattle.ix_projection.specs.Asked.{AsksAbout}
use Rattle.ix_projection.specs.Kept.{Test, kept_collection}

-- The bytes are known, and are the index text of the collection.
pub record HasIndexText (contents : Option (List ℕ)) (version : Version) (collection : Collection) : Type 0 where
  pub bytes : List ℕ
  pub known : contents ≡ Some bytes
  pub text : IsIndexText version collection bytes

-- The bytes are the index text of no collection.
abbrev pub IsOfNone : Option (List ℕ) → Type 0
IsOfNone contents = (version : Version) (collection : Collection) → ¬ (HasIndexText contents version collection)

-- The bytes are the index text of the collection with fewer terms, among them each of its terms that is wanted.
pub record IsProjection (collection : Collection) (wants : List ℕ → Type 0) (bytes : List ℕ) : Type 0 where
  pub keeps : Test
  pub text : IsIndexText Plain (kept_collection keeps collection) bytes
  pub wanted : (term : List ℕ) (number position : ℕ) → HasPosting collection term number position → wants term → keeps term ≡ true

-- The query has a tree under the collection's stop terms, and these bytes have each term that it asks about.
pub record IsQueryProjection (collection : Collection) (query bytes : List ℕ) : Type 0 where
  pub tree : Tree
  pub parsed : Reads collection.stop query tree
  pub projection : IsProjection collection (λ term. AsksAbout term tree) bytes

-- the collection without its documents
abbrev pub without_documents : Collection → Collection
without_documents collection = record { stop = collection.stop; documents = [] }
