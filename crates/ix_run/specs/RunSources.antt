-- A run in memory as a source of its postings: what is left of it.
use Rattle.std.specs.Prelude.{◌≡◌, ◌≢◌, ⊤, ℕ, ◌+◌, ◌-◌, ◌^◌, ◌<◌, List, [], ◌∷◌, ◌++◌, map, length, All, Option, None, option_map, refl}
use Rattle.std.specs.declared.alloc.AllocError.{AllocError}
use Rattle.ix_text.specs.Parts.{DictionaryEntry, Posting}
use Rattle.ix_vbyte.specs.Gaps.{next_after}
use Rattle.ix_vbyte.specs.Postings.{ArePostings, documents_of}
use Rattle.ix_run_text.specs.Heads.{Heading}
use Rattle.ix_run.specs.Runs.{RunValue, TermValue, coded}
use Rattle.ix_run_text.specs.Sources.{AreWhole, IsLawfulFront, YieldsMore, closed}

-- the heading, the terms that are left, the term at hand, and the postings of it that are left
pub record SourceValue : Type 0 where
  pub heading : Heading
  pub terms : List TermValue
  pub term : Option (List ℕ)
  pub postings : List Posting

-- the heading of a run
abbrev pub heading_shown : RunValue → Heading
heading_shown run = record { first = run.first; stop = run.stop; rows = run.rows }

-- the source that a run begins with
abbrev pub unread : RunValue → SourceValue
unread run = record { heading = heading_shown run; terms = run.terms; term = None; postings = [] }

-- the terms are those of the entries, their lists coded
pub record AreCoded (terms : List TermValue) (entries : List DictionaryEntry) : Type 0 where
  pub told : terms ≡ map coded entries
  pub each : All (λ entry. ArePostings 0 (2 ^ 32 - 1) entry.postings) entries

-- postings of the term at hand, and the entries behind it: exactly what is left
pub record HasLeft (source : SourceValue) (left : List Posting) (entries : List DictionaryEntry) : Type 0 where
  pub of_term : left ≡ source.postings
  pub behind : (rest : List DictionaryEntry) → AreCoded source.terms rest → entries ≡ rest

-- finished entries, and the one at hand with the postings given of it: with what is left they are a lawful dictionary
pub record HasGiven (source : SourceValue) (finished : List DictionaryEntry) (at_hand : Option DictionaryEntry) : Type 0 where
  pub rest : List DictionaryEntry
  pub whole : AreWhole source.heading (closed finished at_hand source.postings ++ rest)
  pub left : AreCoded source.terms rest
  pub once : (other : List DictionaryEntry) → AreCoded source.terms other → rest ≡ other
  pub of_term : option_map (λ entry. entry.term) at_hand ≡ source.term
  pub lawful : IsLawfulFront source.heading finished at_hand
  pub completed : (postings : List Posting) (entries : List DictionaryEntry) → HasLeft source postings entries → AreWhole source.heading (closed finished at_hand postings ++ entries)

-- it is always sure
abbrev pub IsAlwaysSure : SourceValue → Type 0
IsAlwaysSure source = ⊤

-- since there is always something left to yield, perhaps no entries
pub always_yields : (source : SourceValue) (finished : List DictionaryEntry) (at_hand : Option DictionaryEntry) → HasGiven source finished at_hand → YieldsMore HasLeft source
always_yields source finished at_hand given = record { postings = source.postings; entries = given.rest; yielded = record { of_term = refl; behind = given.once } }

-- of the term at hand, if there is one, no posting is left
abbrev pub IsAtEndOfTerm : SourceValue → Type 0
IsAtEndOfTerm source = source.term ≢ None → source.postings ≡ []

-- no term is left, and none is at hand
abbrev pub IsAtEnd : SourceValue → Type 0
IsAtEnd source = (source.terms ≡ []) × (source.term ≡ None)

-- A run in memory has one error, and none at its end.
abbrev pub MayLackMemory : SourceValue → AllocError → Type 0
MayLackMemory source error = ¬ (IsAtEnd source)

-- The first of the postings has more positions than this.
pub record FirstExceeds (room : ℕ) (postings : List Posting) : Type 0 where
  pub posting : Posting
  pub others : List Posting
  pub parts : postings ≡ posting ∷ others
  pub more : room < length posting.1

-- the last of the postings that are left, where one is, is of this document
abbrev pub EndsAt : ℕ → List Posting → Type 0
EndsAt last postings = 0 < length postings → next_after 0 (documents_of postings) ≡ last + 1

-- What a run in memory is at any time: at some place of a lawful dictionary.
pub record IsAtPlace (source : SourceValue) : Type 0 where
  pub finished : List DictionaryEntry
  pub at_hand : Option DictionaryEntry
  pub given : HasGiven source finished at_hand
  pub none : source.term ≡ None → source.postings ≡ []
