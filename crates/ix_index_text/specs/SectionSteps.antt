-- What the steps of a writer do to what it keeps.
use Rattle.std.specs.Prelude.{◌≡◌, ℕ, ◌+◌, ◌<◌, List, [], ◌∷◌, ◌++◌, length, None}
use Rattle.ix_text.specs.Parts.{DocumentRow}
use Rattle.ix_index_text.specs.IndexText.{magic}
use Rattle.ix_index_text.specs.Sections.{FrontCoded, stop_section, documents_section}
use Rattle.ix_index_text.specs.declared.sections.WriterSections.{WriterSections}
use Rattle.ix_index_text.specs.Dictionaries.{GainsEntry}
use Rattle.ix_index_text.specs.GramTables.{HoldsGrams}

-- nothing was told
pub record IsEmpty (sections : WriterSections) : Type 0 where
  pub ready : sections.refusal ≡ None
  pub pending : sections.pending.items ≡ []
  pub postings : sections.postings ≡ 0
  pub no_document : sections.list.documents ≡ 0
  pub no_bytes : sections.list.bytes ≡ 0
  pub no_term : sections.list.term.items ≡ []
  pub no_dictionary : sections.dictionary.bytes.items ≡ []
  pub no_entry : sections.dictionary.count ≡ 0
  pub no_previous : sections.dictionary.previous.items ≡ []
  pub grams : HoldsGrams sections.grams []
  pub stop : sections.stop.items ≡ []
  pub documents : sections.documents.items ≡ []

-- the stop terms and rows were told, and no term
pub record Begins (sections : WriterSections) (stop : List (List ℕ)) (rows : List DocumentRow) : Type 0 where
  pub ready : sections.refusal ≡ None
  pub pending : sections.pending.items ≡ magic FrontCoded
  pub postings : sections.postings ≡ 0
  pub no_document : sections.list.documents ≡ 0
  pub no_bytes : sections.list.bytes ≡ 0
  pub no_term : sections.list.term.items ≡ []
  pub no_dictionary : sections.dictionary.bytes.items ≡ []
  pub no_entry : sections.dictionary.count ≡ 0
  pub no_previous : sections.dictionary.previous.items ≡ []
  pub grams : HoldsGrams sections.grams []
  pub stop_terms : sections.stop.items ≡ stop_section stop
  pub documents : sections.documents.items ≡ documents_section rows
  pub counted : sections.rows ≡ length rows

-- the coded stop terms and rows stay
pub record KeepsFront (old new : WriterSections) : Type 0 where
  pub stop : new.stop ≡ old.stop
  pub documents : new.documents ≡ old.documents
  pub rows : new.rows ≡ old.rows

-- no entry is at hand any more: the one that was, if any, is in the dictionary
pub record Closes (old new : WriterSections) : Type 0 where
  pub front : KeepsFront old new
  pub pending : new.pending ≡ old.pending
  pub postings : new.postings ≡ old.postings
  pub grams : new.grams ≡ old.grams
  pub none : new.list.documents ≡ 0
  pub no_bytes : new.list.bytes ≡ 0
  pub no_document : new.list.next ≡ 0
  pub entry : 0 < old.list.documents → GainsEntry old.dictionary new.dictionary old.list.term.items old.list.documents old.list.bytes
  pub no_entry : old.list.documents ≡ 0 → new.dictionary ≡ old.dictionary

-- the term is at hand, and its grams are held
pub record Opens (old new : WriterSections) (term : List ℕ) : Type 0 where
  pub front : KeepsFront old new
  pub pending : new.pending ≡ old.pending
  pub postings : new.postings ≡ old.postings
  pub dictionary : new.dictionary ≡ old.dictionary
  pub term_at_hand : new.list.term.items ≡ term
  pub documents : new.list.documents ≡ old.list.documents
  pub bytes : new.list.bytes ≡ old.list.bytes
  pub next : new.list.next ≡ old.list.next
  pub grams : (terms : List (List ℕ)) → HoldsGrams old.grams terms → HoldsGrams new.grams (terms ++ term ∷ [])

-- the list of the entry at hand has so many documents more, the last of them just before `after`, and so many bytes
pub record Counts (old new : WriterSections) (count after size : ℕ) : Type 0 where
  pub front : KeepsFront old new
  pub dictionary : new.dictionary ≡ old.dictionary
  pub grams : new.grams ≡ old.grams
  pub term : new.list.term ≡ old.list.term
  pub postings : new.postings ≡ old.postings + size
  pub bytes : new.list.bytes ≡ old.list.bytes + size
  pub documents : new.list.documents ≡ old.list.documents + count
  pub next : new.list.next ≡ after

-- what was told stays: all but what is pending, and the refusal
pub record KeepsTold (old new : WriterSections) : Type 0 where
  pub front : KeepsFront old new
  pub dictionary : new.dictionary ≡ old.dictionary
  pub grams : new.grams ≡ old.grams
  pub list : new.list ≡ old.list
  pub postings : new.postings ≡ old.postings
