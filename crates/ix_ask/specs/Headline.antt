-- The headline, one claim behind another: what `build` writes, what opens of it, and what `ask` and `search` write. Each
-- premise is what the clause of that call says at Ok, and no plan stands in any of them.
use Rattle.std.specs.Prelude.{◌≡◌, ℕ, List, [], ◌++◌, length, Some}
use Rattle.ix_text.specs.Collections.{Collection, NamedText, collection_of}
use Rattle.ix_text.specs.CollectionText.{IsCollectionText}
use Rattle.ix_file.specs.Endings.{WritesIndexText}
use Rattle.ix_file.specs.IndexText.{IsIndexText}
use Rattle.ix_file.specs.Opened.{IsIndexOf, Opened}
use Rattle.ix_file.specs.Sections.{FrontCoded, Version}
use Rattle.ix_query.specs.Tree.{Tree}
use Rattle.ix_query.specs.Grammar.{Reads}
use Rattle.ix_query.specs.Scans.{IsScan}
use Rattle.ix_ask.specs.Asking.{IsAnswer, IsAnswered}
use Rattle.ix_ask.specs.Listing.{IsListed}
use Rattle.ix_ask.specs.NameLines.{name_lines, names_read}
use Rattle.ix_ask.specs.Searching.{IsFound}

-- What a build of a text's documents wrote, into a sink that held nothing, is the index text of version 2 of their
-- collection: that of their own token lists, without the stop terms.
abbrev pub BuildWritesIndexText : Type 0
BuildWritesIndexText = (text bytes : List ℕ) (stop : List (List ℕ)) (documents : List NamedText) → IsCollectionText text documents
    → WritesIndexText (Some []) (Some bytes) (collection_of stop documents) → IsIndexText FrontCoded (collection_of stop documents) bytes

-- Whatever plans two builds were of, they wrote the same bytes.
abbrev pub BuildsWriteOneText : Type 0
BuildsWriteOneText = (bytes others : List ℕ) (stop : List (List ℕ)) (documents : List NamedText) → WritesIndexText (Some []) (Some bytes) (collection_of stop documents)
    → WritesIndexText (Some []) (Some others) (collection_of stop documents) → bytes ≡ others

-- What opens of it is the index, in version 2, of exactly that collection: whichever collection it is found to be of.
abbrev pub OpensAsThatCollection : Type 0
OpensAsThatCollection = (text bytes : List ℕ) (stop : List (List ℕ)) (documents : List NamedText) (opened : Opened) (version : Version) (collection : Collection) → IsCollectionText text documents
    → WritesIndexText (Some []) (Some bytes) (collection_of stop documents) → IsIndexOf opened version collection → IsIndexText version collection bytes
    → (collection ≡ collection_of stop documents) × IsIndexOf opened FrontCoded (collection_of stop documents)

-- What `ask` wrote are the names of exactly the documents of the text whose token lists satisfy the query, each with LF, in
-- order, and it answered how many: whatever documents, tree and numbers these are known by.
abbrev pub AskWritesTheNames : Type 0
AskWritesTheNames = (text query old new : List ℕ) (stop : List (List ℕ)) (documents : List NamedText) (tree : Tree) (numbers : List ℕ) (count : ℕ) → IsCollectionText text documents → Reads stop query tree
    → IsScan (collection_of stop documents) tree numbers → IsAnswered text stop query (Some old) (Some new) count
    → (new ≡ old ++ name_lines (names_read documents) numbers) × (count ≡ length numbers)

-- What `search` writes of an index of that collection is the same.
abbrev pub SearchWritesTheSame : Type 0
SearchWritesTheSame = (text query lines others : List ℕ) (stop : List (List ℕ)) (documents : List NamedText) (count number : ℕ) → IsCollectionText text documents → IsAnswer text stop query lines count
    → IsFound (collection_of stop documents) query others number → (lines ≡ others) × (count ≡ number)

-- What a query finds in an index text is one list: whichever collection and version it is found to be of, by an exact reader
-- or by one that reads only what the query needs.
abbrev pub FindsOneList : Type 0
FindsOneList = (version another : Version) (collection other : Collection) (bytes query lines others : List ℕ) (count number : ℕ) → IsIndexText version collection bytes → IsIndexText another other bytes
    → IsFound collection query lines count → IsFound other query others number → (lines ≡ others) × (count ≡ number)

-- What a pattern lists of it is one list, too.
abbrev pub ListsOneList : Type 0
ListsOneList = (version another : Version) (collection other : Collection) (bytes pattern lines others : List ℕ) (count number : ℕ) → IsIndexText version collection bytes → IsIndexText another other bytes
    → IsListed collection pattern lines count → IsListed other pattern others number → (lines ≡ others) × (count ≡ number)
