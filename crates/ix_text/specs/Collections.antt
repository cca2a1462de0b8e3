-- What an index stands for: a stop set and named token lists, and what is said of them (IIR 1.2, 2.4.2, 3.2.2).
use Rattle.std.specs.Prelude.{◌≡◌, ◌≢◌, ℕ, ◌^◌, ◌<◌, ◌≤◌, List, map, length, sum_by, slice_get, Some, IfSome, All, Contains, IsUtf8}
use Rattle.ix_text.specs.ByteOrder.{IsAscending}
use Rattle.ix_text.specs.Terms.{IsTerm}
use Rattle.ix_text.specs.TokenLists.{Entry, token_list}
use Rattle.ix_text.specs.Windows.{grams_of}

-- a document as it is indexed: its name and its token list
pub record Document : Type 0 where
  pub name : List ℕ
  pub tokens : List Entry

-- a collection: the stop set, as the ascending list of its terms, and the documents, numbered from 0
pub record Collection : Type 0 where
  pub stop : List (List ℕ)
  pub documents : List Document

-- a document as it is read: its name and its text
pub record NamedText : Type 0 where
  pub name : List ℕ
  pub text : List ℕ

-- the collection of named texts under a stop list
unfoldable pub collection_of : List (List ℕ) → List NamedText → Collection
collection_of stop texts =
    record { stop = stop; documents = map (λ d. record { name = d.name; tokens = token_list stop d.text }) texts }

-- (document, position) is a posting of the term: that entry of that document's token list is the term
pub record HasPosting (collection : Collection) (term : List ℕ) (number position : ℕ) : Type 0 where
  pub document : Document
  pub numbered : slice_get collection.documents number ≡ Some document
  pub entry : slice_get document.tokens position ≡ Some (Some term)

-- the terms that have a posting, each once, in byte order; a term's number is its place here, from 0
pub record IsVocabulary (collection : Collection) (terms : List (List ℕ)) : Type 0 where
  pub ascending : IsAscending terms
  pub posted : (term : List ℕ) → Contains terms term → (number : ℕ) × ((position : ℕ) × HasPosting collection term number position)
  pub complete : (term : List ℕ) (number position : ℕ) → HasPosting collection term number position → Contains terms term

-- the trigram relation: the term of that number has the gram
pub record HasGram (collection : Collection) (gram : List ℕ) (number : ℕ) : Type 0 where
  pub terms : List (List ℕ)
  pub vocabulary : IsVocabulary collection terms
  pub term : List ℕ
  pub numbered : slice_get terms number ≡ Some term
  pub windowed : Contains (grams_of term) gram

-- neither TAB nor LF
abbrev pub IsNameByte : ℕ → Type 0
IsNameByte byte = (byte ≢ 9) × (byte ≢ 10)

-- A name is UTF-8 text of 1 to 255 bytes without TAB and LF.
pub record IsName (name : List ℕ) : Type 0 where
  pub characters : IsUtf8 name
  pub some_byte : 0 < length name
  pub short : length name ≤ 255
  pub unbroken : All IsNameByte name

-- a lawful entry: nothing, or a term that is none of the stop terms
abbrev pub IsLawfulEntry : List (List ℕ) → Entry → Type 0
IsLawfulEntry stop entry = IfSome entry (λ term. IsTerm term × ¬ (Contains stop term))

-- the number of tokens of a collection, entries that are nothing included
abbrev pub token_total : Collection → ℕ
token_total collection = sum_by (λ d. length d.tokens) collection.documents

-- A collection that an index may stand for.
pub record IsLawful (collection : Collection) : Type 0 where
  pub names : All (λ d. IsName d.name) collection.documents
  pub stop_terms : All IsTerm collection.stop
  pub stop_ascending : IsAscending collection.stop
  pub entries : All (λ d. All (IsLawfulEntry collection.stop) d.tokens) collection.documents
  pub few_stop_terms : length collection.stop ≤ 2 ^ 28
  pub few_documents : length collection.documents ≤ 2 ^ 28
  pub few_tokens : token_total collection ≤ 2 ^ 28
