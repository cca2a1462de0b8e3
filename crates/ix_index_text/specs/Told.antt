-- What the calls of a writer told: the parts of an index, the entry at hand apart from the finished ones.
use Rattle.std.specs.Prelude.{ℕ, List, [], ◌∷◌, ◌++◌, Option, None, Some, sum_by}
use Rattle.std.specs.Option.{option_map, option_to_list}
use Rattle.ix_text.specs.Parts.{Parts, DictionaryEntry, DocumentRow}
use Rattle.ix_text.specs.PartsLaws.{position_count}
use Rattle.ix_vbyte.specs.Postings.{Posting}
use Rattle.ix_index_text.specs.IndexText.{magic}
use Rattle.ix_index_text.specs.Sections.{FrontCoded, postings_section}

-- stop terms, rows, the entries that are finished, and the entry that is still told, or none
pub record Told : Type 0 where
  pub stop : List (List ℕ)
  pub rows : List DocumentRow
  pub done : List DictionaryEntry
  pub at_hand : Option DictionaryEntry

-- before the first term
abbrev pub told_first : List (List ℕ) → List DocumentRow → Told
told_first stop rows = record { stop = stop; rows = rows; done = []; at_hand = None }

-- all entries
abbrev pub entries_of : Told → List DictionaryEntry
entries_of told = told.done ++ option_to_list told.at_hand

-- a term more: the entry at hand is finished, and one without postings is at hand
abbrev pub with_term : Told → List ℕ → Told
with_term told term =
    record { stop = told.stop; rows = told.rows; done = entries_of told; at_hand = Some (record { term = term; postings = [] }) }

-- the entry with these postings more
abbrev pub listed : List Posting → DictionaryEntry → DictionaryEntry
listed postings entry = record { term = entry.term; postings = entry.postings ++ postings }

-- these postings more, of the entry at hand
abbrev pub with_postings : Told → List Posting → Told
with_postings told postings =
    record { stop = told.stop; rows = told.rows; done = told.done; at_hand = option_map (listed postings) told.at_hand }

-- a posting more, of the entry at hand
abbrev pub with_posting : Told → ℕ → List ℕ → Told
with_posting told document positions = with_postings told ((document, positions) ∷ [])

-- the parts that were told
abbrev pub parts_of : Told → Parts
parts_of told = record { stop = told.stop; rows = told.rows; entries = entries_of told }

-- the front of an index text that is settled by what was told: everything before STOP
abbrev pub settled_front : Told → List ℕ
settled_front told = magic FrontCoded ++ postings_section (entries_of told)

-- how many positions the entries have in all
abbrev pub position_total : List DictionaryEntry → ℕ
position_total entries = sum_by (λ entry. position_count entry.postings) entries
