-- What a run is of a collection: its head, and each term's list coded as the run text has it.
use Rattle.std.specs.Prelude.{◌≡◌, ℕ, ◌+◌, ◌-◌, ◌^◌, ◌≤◌, ◌<◌, ◌⊎◌, List, [], ◌∷◌, ◌++◌, map, length, flat_map, codes}
use Rattle.std.specs.Int.{to_le_bytes, w32}
use Rattle.ix_text.specs.Collections.{Collection, IsLawful, token_total}
use Rattle.ix_text.specs.Parts.{Parts, DictionaryEntry, DocumentRow, Posting, ArePartsOf, row_bytes}
use Rattle.ix_vbyte.specs.Code.{code_of}
use Rattle.ix_vbyte.specs.Gaps.{next_after}
use Rattle.ix_vbyte.specs.Postings.{documents_of, list_bytes}
use Rattle.ix_vbyte.specs.Texts.{counted}
use Rattle.ix_run_text.specs.Heads.{row_of_doc}
use Rattle.ix_run_text.specs.declared.head.RunHead.{RunHead}
use Rattle.ix_run.specs.declared.coded_terms.CodedTerm.{CodedTerm}

-- a term, the number of its documents, the last of them, and the bytes of its list
pub record TermValue : Type 0 where
  pub term : List ℕ
  pub documents : ℕ
  pub last : ℕ
  pub list : List ℕ

-- the first document's number, the stop terms, the rows of the documents, and the terms
pub record RunValue : Type 0 where
  pub first : ℕ
  pub stop : List (List ℕ)
  pub rows : List DocumentRow
  pub terms : List TermValue

-- a term of a run as its value
abbrev pub term_shown : CodedTerm → TermValue
term_shown coded = record { term = coded.term.now; documents = coded.documents; last = coded.last; list = coded.list.now }

-- a run of this head and these terms
abbrev pub head_value : RunHead → List TermValue → RunValue
head_value head terms = record { first = head.first; stop = head.stop; rows = map row_of_doc head.docs.items; terms = terms }

-- the last document of some postings, and 0 where there is none
abbrev pub last_document : List Posting → ℕ
last_document postings = next_after 0 (documents_of postings) - 1

-- a dictionary entry with its list coded
abbrev pub coded : DictionaryEntry → TermValue
coded entry = record { term = entry.term; documents = length entry.postings; last = last_document entry.postings; list = list_bytes entry.postings }

-- the run of these parts
abbrev pub run_value : ℕ → Parts → RunValue
run_value first parts = record { first = first; stop = parts.stop; rows = parts.rows; terms = map coded parts.entries }

-- The run is that of the collection, its documents counted from this number.
pub record IsRunOf (run : RunValue) (first : ℕ) (collection : Collection) : Type 0 where
  pub lawful : IsLawful collection
  pub within : first + length collection.documents ≤ 2 ^ 28
  pub parts : Parts
  pub of_collection : ArePartsOf collection parts
  pub held : run ≡ run_value first parts

-- no run holds the documents under these numbers, or so many tokens
abbrev pub IsTooLarge : ℕ → Collection → Type 0
IsTooLarge first collection = (2 ^ 28 < first + length collection.documents) ⊎ (2 ^ 28 < token_total collection)

-- a term with its list, as the run text has them
abbrev pub value_bytes : TermValue → List ℕ
value_bytes value = counted value.term ++ code_of value.documents ++ counted value.list

-- the front of the run text of a run
abbrev pub front_bytes : RunValue → List ℕ
front_bytes run =
    codes "PIIXRUN1" ++ to_le_bytes w32 run.first ++ to_le_bytes w32 (length run.rows) ++ code_of (length run.stop)
    ++ flat_map counted run.stop ++ flat_map (row_bytes code_of) run.rows

-- the run text of a run
unfoldable pub run_bytes : RunValue → List ℕ
run_bytes run = front_bytes run ++ flat_map value_bytes run.terms ++ 128 ∷ []

-- what may be counted in 32 bits
abbrev pub IsShort : List ℕ → Type 0
IsShort bytes = length bytes < 2 ^ 32

-- What a run always is: a run of some lawful collection.
pub record IsRun (run : RunValue) : Type 0 where
  pub first : ℕ
  pub collection : Collection
  pub of_collection : IsRunOf run first collection
