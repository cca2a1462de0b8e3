-- Inverted documents: which terms occur where, and the postings that a term's occurrences make (IIR 1.2, 2.4.2).
use Rattle.std.specs.Prelude.{ℕ, ◌+◌, ◌==◌, List, [], ◌∷◌, ◌++◌, map, length, sum_by, All, Some, None, fold, bytes_eq, if◌then◌else◌}
use Rattle.ix_text.specs.Collections.{Document, IsLawfulEntry, IsName, NamedText}
use Rattle.ix_text.specs.Parts.{Posting}
use Rattle.ix_text.specs.TokenLists.{Entry, token_list}

-- a term stands in the document of that number at that position
pub record Occurrence : Type 0 where
  pub term : List ℕ
  pub document : ℕ
  pub position : ℕ

-- the terms of a token list, whose first entry stands at that position of that document
abbrev pub occurrences_in : ℕ → ℕ → List Entry → List Occurrence
occurrences_in document position [] = []
occurrences_in document position (None ∷ entries) = occurrences_in document (position + 1) entries
occurrences_in document position (Some term ∷ entries) =
    record { term = term; document = document; position = position } ∷ occurrences_in document (position + 1) entries

-- the terms of documents, the first of which has that number
abbrev pub occurrences_of : ℕ → List Document → List Occurrence
occurrences_of number [] = []
occurrences_of number (document ∷ documents) = occurrences_in number 0 document.tokens ++ occurrences_of (number + 1) documents

-- the postings with one more position: in the last posting, if it is of that document, or in a new one behind it
abbrev pub grown : List Posting → ℕ → ℕ → List Posting
grown [] document position = (document, position ∷ []) ∷ []
grown (posting ∷ []) document position =
    if posting.0 == document then (document, posting.1 ++ position ∷ []) ∷ [] else posting ∷ (document, position ∷ []) ∷ []
grown (posting ∷ next ∷ postings) document position = posting ∷ grown (next ∷ postings) document position

-- the postings with one more occurrence, which counts where it is of the term
abbrev pub posted : List ℕ → List Posting → Occurrence → List Posting
posted term postings occurrence =
    if bytes_eq occurrence.term term then grown postings occurrence.document occurrence.position else postings

-- the postings that a term has in occurrences
abbrev pub postings_of : List ℕ → List Occurrence → List Posting
postings_of term occurrences = fold (posted term) [] occurrences

-- the documents of named texts under a stop list
abbrev pub document_of : List (List ℕ) → NamedText → Document
document_of stop text = record { name = text.name; tokens = token_list stop text.text }

abbrev pub documents_of : List (List ℕ) → List NamedText → List Document
documents_of stop texts = map (document_of stop) texts

-- the number of tokens of documents, entries that are nothing included
abbrev pub tokens_of : List Document → ℕ
tokens_of documents = sum_by (λ d. length d.tokens) documents

-- a document that a lawful collection under this stop list may have
pub record IsLawfulDocument (stop : List (List ℕ)) (document : Document) : Type 0 where
  pub name : IsName document.name
  pub entries : All (IsLawfulEntry stop) document.tokens
