-- What a source of postings, read term by term, tells: what it has given, and what it may yield yet.
use Rattle.std.specs.Prelude.{◌≡◌, ℕ, ◌+◌, ◌^◌, ◌<◌, ◌≤◌, List, [], ◌∷◌, ◌++◌, length, Contains, Option, Some, None, IfSome}
use Rattle.ix_text.specs.ByteOrder.{IsAscending}
use Rattle.ix_text.specs.Parts.{DictionaryEntry, Posting, terms_of}
use Rattle.ix_text.specs.PartsLaws.{AreLawful}
use Rattle.ix_text.specs.Terms.{IsTerm}
use Rattle.ix_vbyte.specs.Gaps.{next_after}
use Rattle.ix_vbyte.specs.Postings.{documents_of, list_bytes_from, shifted}
use Rattle.ix_run_text.specs.Heads.{Heading, parts_with}

-- a term with these postings
abbrev pub entry_with : List ℕ → List Posting → DictionaryEntry
entry_with term postings = record { term = term; postings = postings }

-- the entry with these postings behind those that it has
abbrev pub extended : DictionaryEntry → List Posting → DictionaryEntry
extended entry postings = entry_with entry.term (entry.postings ++ postings)

-- the finished entries, and behind them the one at hand, if there is one, with these postings too
abbrev pub closed : List DictionaryEntry → Option DictionaryEntry → List Posting → List DictionaryEntry
closed finished None postings = finished
closed finished (Some entry) postings = finished ++ extended entry postings ∷ []

-- The entries are the dictionary of a lawful collection under this heading, whose numbers an index can hold.
pub record AreWhole (heading : Heading) (entries : List DictionaryEntry) : Type 0 where
  pub lawful : AreLawful (parts_with heading entries)
  pub within : heading.first + length heading.rows ≤ 2 ^ 28

-- A term that may come behind the finished entries, and with its first posting does so lawfully.
pub record IsBegun (heading : Heading) (finished : List DictionaryEntry) (entry : DictionaryEntry) : Type 0 where
  pub term : IsTerm entry.term
  pub no_stop : ¬ (Contains heading.stop entry.term)
  pub ascending : IsAscending (terms_of (finished ++ entry ∷ []))
  pub posted : 0 < length entry.postings → AreWhole heading (finished ++ entry ∷ [])

-- What was given so far: finished entries, and one at hand that may lack a posting yet.
pub record IsLawfulFront (heading : Heading) (finished : List DictionaryEntry) (at_hand : Option DictionaryEntry) : Type 0 where
  pub whole : AreWhole heading finished
  pub begun : IfSome at_hand (IsBegun heading finished)

-- what a source may yield yet: postings of the term at hand, and the entries behind it
abbrev pub Yielding : Type 0 → Type 1
Yielding Source = Source → List Posting → List DictionaryEntry → Type 0

-- what a source may have given: finished entries, and the one at hand with the postings given of it
abbrev pub Giving : Type 0 → Type 1
Giving Source = Source → List DictionaryEntry → Option DictionaryEntry → Type 0

-- Postings of the current term, and entries after it, that a source may yield yet.
pub record YieldsMore {Source : Type 0} (yields : Yielding Source) (source : Source) : Type 0 where
  pub postings : List Posting
  pub entries : List DictionaryEntry
  pub yielded : yields source postings entries

-- the errors with which a source may answer yet
abbrev pub Faulting : Type 0 → Type 0 → Type 1
Faulting Source Error = Source → Error → Type 0

-- The new source may answer with no error with which the old one might not.
abbrev pub KeepsFaults : {Source Error : Type 0} → Faulting Source Error → Source → Source → Type 0
KeepsFaults {Error = Error} faults old new = (error : Error) → faults new error → faults old error

-- A source of which nothing was asked yet: it may have given nothing.
abbrev pub IsUnread : {Source : Type 0} → Giving Source → Source → Type 0
IsUnread gives source = gives source [] None

-- From the old state to the new one a source went over some postings of the term at hand, none where no posting was
-- left, and came to this term.
pub record BeginsTerm {Source : Type 0} (yields : Yielding Source) (gives : Giving Source) (is_drained : Source → Type 0)
    (old new : Source) (term : List ℕ) : Type 0 where
  pub skipped : List Posting
  pub yielded : (postings : List Posting) (entries : List DictionaryEntry) → yields new postings entries
      → yields old skipped (entry_with term postings ∷ entries)
  pub given : (finished : List DictionaryEntry) (at_hand : Option DictionaryEntry) → gives old finished at_hand
      → gives new (closed finished at_hand skipped) (Some (entry_with term []))
  pub none : is_drained old → skipped ≡ []

-- The same, and came to its end.
pub record EndsTerms {Source : Type 0} (yields : Yielding Source) (gives : Giving Source) (is_drained : Source → Type 0)
    (old new : Source) : Type 0 where
  pub skipped : List Posting
  pub yielded : yields old skipped []
  pub given : (finished : List DictionaryEntry) (at_hand : Option DictionaryEntry) → gives old finished at_hand
      → gives new (closed finished at_hand skipped) None
  pub none : is_drained old → skipped ≡ []

-- From the old state to the new one a source gave one posting of the term at hand.
pub record GivesPosting {Source : Type 0} (yields : Yielding Source) (gives : Giving Source)
    (old new : Source) (posting : Posting) : Type 0 where
  pub yielded : (postings : List Posting) (entries : List DictionaryEntry) → yields new postings entries
      → yields old (posting ∷ postings) entries
  pub given : (finished : List DictionaryEntry) (entry : DictionaryEntry) → gives old finished (Some entry)
      → gives new finished (Some (extended entry (posting ∷ [])))

-- A source found that the term at hand has no further posting.
pub record EndsPostings {Source : Type 0} (yields : Yielding Source) (gives : Giving Source)
    (old new : Source) : Type 0 where
  pub yielded : (postings : List Posting) (entries : List DictionaryEntry) → yields new postings entries
      → (postings ≡ []) × yields old [] entries
  pub given : (finished : List DictionaryEntry) (entry : DictionaryEntry) → gives old finished (Some entry)
      → gives new finished (Some entry) × (0 < length entry.postings)

-- From the old state to the new one a source gave all postings of the term at hand that were left, coded behind the
-- bytes `before`: their documents counted from `first` on, the first gap taken from `from`, which is one above the
-- document before them, and `to` one above the last of them, or `from` where there was none.
pub record GivesList {Source : Type 0} (yields : Yielding Source) (gives : Giving Source) (old new : Source)
    (first from documents to : ℕ) (before after : List ℕ) : Type 0 where
  pub postings : List Posting
  pub yielded : (rest : List Posting) (entries : List DictionaryEntry) → yields new rest entries
      → (rest ≡ []) × yields old postings entries
  pub given : (finished : List DictionaryEntry) (entry : DictionaryEntry) → gives old finished (Some entry)
      → gives new finished (Some (extended entry postings)) × (0 < length (entry.postings ++ postings))
  pub count : documents ≡ length postings
  pub last : to ≡ next_after from (documents_of (shifted first postings))
  pub coded : after ≡ before ++ list_bytes_from from (shifted first postings)
