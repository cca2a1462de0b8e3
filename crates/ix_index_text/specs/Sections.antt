-- The sections of an index text: variable byte codes of gaps (IIR 5.3.1), and the dictionary plain or front coded (IIR 5.2.2).
use Rattle.std.specs.Prelude.{ℕ, ◌+◌, ◌%◌, ◌==◌, List, [], ◌∷◌, ◌++◌, length, drop, flat_map, nat_eq, if◌then◌else◌}
use Rattle.std.specs.List.{common_prefix_len}
use Rattle.ix_vbyte.specs.Code.{code_of}
use Rattle.ix_vbyte.specs.Gaps.{gaps_of}
use Rattle.ix_vbyte.specs.Postings.{codes_of, list_bytes}
use Rattle.ix_vbyte.specs.Texts.{counted}
use Rattle.ix_text.specs.Parts.{DictionaryEntry, DocumentRow, GramEntry, row_bytes}

-- the two versions of the index text, which differ in the dictionary and in their marks
pub data Version : Type 0 where
  Plain : Version
  FrontCoded : Version

-- POSTINGS: the coded list of each term, in the order of the terms
unfoldable pub postings_section : List DictionaryEntry → List ℕ
postings_section entries = flat_map (λ entry. list_bytes entry.postings) entries

-- STOP: each stop term
unfoldable pub stop_section : List (List ℕ) → List ℕ
stop_section stop = flat_map counted stop

-- DOCS: each document's name and the number of its tokens
unfoldable pub documents_section : List DocumentRow → List ℕ
documents_section rows = flat_map (row_bytes code_of) rows

-- behind a term: the number of its documents, and of the bytes of its list
abbrev pub entry_counts : DictionaryEntry → List ℕ
entry_counts entry = code_of (length entry.postings) ++ code_of (length (list_bytes entry.postings))

-- a term behind the number of bytes that it shares with the term before, and of those that are its own
abbrev pub front_coded : List ℕ → List ℕ → List ℕ
front_coded before term =
    let shared = common_prefix_len nat_eq before term in code_of shared ++ counted (drop shared term)

-- a term at its place in the dictionary: the first of each four stands whole
abbrev pub grouped : ℕ → List ℕ → List ℕ → List ℕ
grouped place before term = if place % 4 == 0 then counted term else front_coded before term

-- the entries from a place on, behind the term before
abbrev pub front_coded_from : ℕ → List ℕ → List DictionaryEntry → List ℕ
front_coded_from place before [] = []
front_coded_from place before (entry ∷ entries) =
    grouped place before entry.term ++ entry_counts entry ++ front_coded_from (place + 1) entry.term entries

-- DICTIONARY: each term with its counts
unfoldable pub dictionary_section : Version → List DictionaryEntry → List ℕ
dictionary_section Plain entries = flat_map (λ entry. counted entry.term ++ entry_counts entry) entries
dictionary_section FrontCoded entries = front_coded_from 0 [] entries

-- GRAMS: each gram, the number of its terms, and the gaps of their numbers
unfoldable pub grams_section : List GramEntry → List ℕ
grams_section grams = flat_map (λ entry. counted entry.gram ++ code_of (length entry.numbers) ++ codes_of (gaps_of entry.numbers)) grams
