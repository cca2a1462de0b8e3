-- Calls of a reader, one behind another, none of which returned an error.
use Rattle.std.specs.Prelude.{◌≡◌, ◌⊎◌, ℕ, suc, List, [], ◌∷◌, Option}
use Rattle.ix_text.specs.Parts.{DictionaryEntry, Posting}
use Rattle.ix_run_text.specs.Heads.{parts_with}
use Rattle.ix_run_text.specs.Reading.{BeginsFirst, Faces, GivesAll, GivesFirst, HasRead, IsDrained, MayYield}
use Rattle.ix_run_text.specs.RunReaders.{heading_read}
use Rattle.ix_run_text.specs.RunText.{run_layout}
use Rattle.ix_run_text.specs.Sources.{AreWhole, BeginsTerm, EndsPostings, EndsTerms, GivesList, GivesPosting, IsUnread}
use Rattle.ix_run_text.specs.declared.run_reader.RunReader.{RunReader}

-- A reader that was opened on these bytes: nothing was given, and what it may yield is what they spell.
pub record IsOpened {R : Type 0} (remaining : R → Option (List ℕ)) (bytes : List ℕ) (reader : RunReader R) : Type 0 where
  pub unread : IsUnread HasRead reader
  pub yields : (entries : List DictionaryEntry) → MayYield remaining reader [] entries
      → (bytes ≡ run_layout (heading_read reader).first (parts_with (heading_read reader) entries)) × AreWhole (heading_read reader) entries

-- `next_term` returned true.
pub record CallBegins {R : Type 0} (remaining : R → Option (List ℕ)) (old new : RunReader R) : Type 0 where
  pub term : List ℕ
  pub begun : BeginsTerm (MayYield remaining) HasRead IsDrained old new term
  pub accepted : (postings : List Posting) (entries : List DictionaryEntry) → Faces remaining old postings entries → BeginsFirst remaining new entries

-- `next_term` returned false.
pub record CallEnds {R : Type 0} (remaining : R → Option (List ℕ)) (old new : RunReader R) : Type 0 where
  pub ended : EndsTerms (MayYield remaining) HasRead IsDrained old new
  pub accepted : (postings : List Posting) (entries : List DictionaryEntry) → Faces remaining old postings entries → entries ≡ []

-- `next_posting` returned this posting.
pub record CallGives {R : Type 0} (remaining : R → Option (List ℕ)) (old new : RunReader R) (posting : Posting) : Type 0 where
  pub given : GivesPosting (MayYield remaining) HasRead old new posting
  pub accepted : (postings : List Posting) (entries : List DictionaryEntry) → Faces remaining old postings entries → GivesFirst remaining new posting postings entries

-- `next_posting` returned none.
pub record CallGivesNone {R : Type 0} (remaining : R → Option (List ℕ)) (old new : RunReader R) : Type 0 where
  pub given : EndsPostings (MayYield remaining) HasRead old new
  pub accepted : (postings : List Posting) (entries : List DictionaryEntry) → Faces remaining old postings entries → (postings ≡ []) × Faces remaining new [] entries

-- `take_list` returned a list.
pub record CallGivesList {R : Type 0} (remaining : R → Option (List ℕ)) (old new : RunReader R) : Type 0 where
  pub next : ℕ
  pub documents : ℕ
  pub after : ℕ
  pub before : List ℕ
  pub coded : List ℕ
  pub given : GivesList (MayYield remaining) HasRead old new (heading_read old).first next documents after before coded
  pub accepted : (postings : List Posting) (entries : List DictionaryEntry) → Faces remaining old postings entries
      → GivesAll remaining new (heading_read old).first next before coded postings entries

-- a call that began no term
abbrev pub CallStays : {R : Type 0} → (R → Option (List ℕ)) → RunReader R → RunReader R → Type 0
CallStays remaining old new = ((posting : Posting) × CallGives remaining old new posting) ⊎ (CallGivesNone remaining old new ⊎ CallGivesList remaining old new)

-- From the old reader, through these, to the last one each call returned no error; so many of them began a term.
abbrev pub CallsLead : {R : Type 0} → (R → Option (List ℕ)) → RunReader R → List (RunReader R) → ℕ → RunReader R → Type 0
CallsLead remaining old [] terms last = (terms ≡ 0) × (old ≡ last)
CallsLead remaining old (next ∷ readers) terms last =
    ((before : ℕ) × (terms ≡ suc before) × CallBegins remaining old next × CallsLead remaining next readers before last)
    ⊎ (CallStays remaining old next × CallsLead remaining next readers terms last)
