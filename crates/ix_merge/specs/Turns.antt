-- A source's turn in a merge: its current list goes to the pending entry, and its next term is read.
use Rattle.std.specs.Prelude.{◌≡◌, ◌≢◌, ℕ, ◌+◌, ◌^◌, ◌≤◌, ◌⊎◌, List, [], ◌∷◌, ◌++◌, Option, Some, MatchOption, option_map, string_bytes}
use Rattle.ix_file.specs.Gaps.{next_after}
use Rattle.ix_file.specs.Postings.{documents_of}
use Rattle.ix_file.specs.Postings.{shifted}
use Rattle.ix_text.specs.Parts.{DictionaryEntry, Posting}
use Rattle.ix_text.specs.PartsLaws.{position_count}
use Rattle.ix_output.specs.Sinks.{AppendsFront}
use Rattle.ix_file.specs.Telling.{IsClosable}
use Rattle.ix_file.specs.Told.{Told, entries_of, position_total, settled_front, with_postings, with_term}
use Rattle.ix_file.specs.Writers.{sink}
use Rattle.ix_file.specs.WriterSections.{WriterSections}
use Rattle.ix_file.specs.IndexWriter.{IndexWriter}
use Rattle.ix_run.specs.Heads.{Heading}
use Rattle.ix_run.specs.Sources.{AreWhole, Giving, Yielding, entry_with}
use Rattle.ix_merge.specs.Gathered.{HasGathered}
use Rattle.ix_merge.specs.Unfinished.{YieldsBehind}
use Rattle.ix_merge.specs.declared.pending_entry.PendingEntry.{PendingEntry}

-- the entry of the current term, of which nothing was given yet
abbrev pub bare_entry : Option (List ℕ) → Option DictionaryEntry
bare_entry current = option_map (λ term. entry_with term []) current

-- The pending entry has this term, and its documents end here; without an entry the term is empty.
abbrev pub IsAtHand : Told → List ℕ → ℕ → Type 0
IsAtHand told term next = MatchOption told.at_hand (term ≡ []) (λ entry. (term ≡ entry.term) × (next ≡ next_after 0 (documents_of entry.postings)))

-- The pending entry has this term: it is the last one, or a new one.
pub record Begins (told : Told) (last : List ℕ) (next : ℕ) (term : List ℕ) (begun : Told) (from : ℕ) : Type 0 where
  pub is : ((last ≡ term) × (begun ≡ told) × (from ≡ next)) ⊎ ((last ≢ term) × (begun ≡ with_term told term) × (from ≡ 0))

-- The writer was told to begin the entry of a term, unless it was the pending one; lists of it may be gathered.
pub record BeginsEntry {W : Type 0} (contents : W → Option (List ℕ)) (before : Option (List ℕ)) (writer : IndexWriter W WriterSections)
    (told : Told) (last : List ℕ) (next : ℕ) (term : List ℕ) (entry : PendingEntry) : Type 0 where
  pub begun : Told
  pub begins : Begins told last next term begun entry.end
  pub was : HasGathered contents before writer entry begun

-- A source may have given these entries and is at the beginning of a term, which may be written next: no lower one, its
-- documents after those that were written of it, and with few enough positions.
pub record MayTurn {S : Type 0} (heading : S → Heading) (current : S → Option (List ℕ)) (gives : Giving S)
    (source : S) (given : List DictionaryEntry) (told : Told) (last : List ℕ) (next : ℕ) : Type 0 where
  pub gives_these : gives source given (bare_entry (current source))
  pub closable : IsClosable told
  pub at_hand : IsAtHand told last next
  pub follows : (term : List ℕ) → current source ≡ Some term → last ≡ term → next ≤ (heading source).first
  pub few : (entry : DictionaryEntry) → AreWhole (heading source) (given ++ entry ∷ []) → position_total (entries_of told) + position_count entry.postings ≤ 2 ^ 28

-- the same for some entries, and something that the writer was given, but for what was gathered
pub record MayTurnSomehow {S W : Type 0} (heading : S → Heading) (current : S → Option (List ℕ)) (gives : Giving S)
    (contents : W → Option (List ℕ)) (source : S) (entry : PendingEntry) (writer : IndexWriter W WriterSections) : Type 0 where
  pub before : Option (List ℕ)
  pub told : Told
  pub was : HasGathered contents before writer entry told
  pub given : List DictionaryEntry
  pub may : MayTurn heading current gives source given told (string_bytes entry.term) entry.end

-- Postings of the current term that a source gives lawfully, after the entries before.
pub record GivesEntry {S : Type 0} (heading : S → Heading) (current : S → Option (List ℕ)) (source : S) (given : List DictionaryEntry)
    (told : Told) (last : List ℕ) (next : ℕ) : Type 0 where
  pub term : List ℕ
  pub is : current source ≡ Some term
  pub postings : List Posting
  pub whole : AreWhole (heading source) (given ++ entry_with term postings ∷ [])
  pub begun : Told
  pub from : ℕ
  pub begins : Begins told last next term begun from

-- what was given with these postings, too
abbrev pub told_then : Told → ℕ → List Posting → Told
told_then begun first postings = with_postings begun (shifted first postings)

-- From the old state to the new one a source passed the postings of its current term, to its next term or its end.
pub record GoesOn {S : Type 0} (current : S → Option (List ℕ)) (yields : Yielding S) (gives : Giving S) (old new : S)
    (given : List DictionaryEntry) (entry : DictionaryEntry) : Type 0 where
  pub gives_more : gives new (given ++ entry ∷ []) (bare_entry (current new))
  pub yielded : MatchOption (current new) (yields old entry.postings [])
      (λ term. (postings : List Posting) (entries : List DictionaryEntry) → yields new postings entries → yields old entry.postings (entry_with term postings ∷ entries))

-- A source's current list was written or gathered, and the source advanced.
pub record HasTurned {S W : Type 0} (heading : S → Heading) (current : S → Option (List ℕ)) (yields : Yielding S) (gives : Giving S)
    (contents : W → Option (List ℕ)) (before : Option (List ℕ)) (old new : S) (given : List DictionaryEntry)
    (told : Told) (last : List ℕ) (next : ℕ) (writer : IndexWriter W WriterSections) (entry : PendingEntry) : Type 0 where
  pub gave : GivesEntry heading current old given told last next
  pub goes : GoesOn current yields gives old new given (entry_with gave.term gave.postings)
  pub was : HasGathered contents before writer entry (told_then gave.begun (heading old).first gave.postings)
  pub told_of : string_bytes entry.term ≡ gave.term
  pub told_to : entry.end ≡ next_after gave.from (documents_of (shifted (heading old).first gave.postings))

-- A prefix was written of what is settled by what was given, or by that with the postings of a source's current term; then
-- the source may yield these, if it is sure.
abbrev pub HasToldSome : {S W : Type 0} → (S → Heading) → (S → Option (List ℕ)) → Yielding S → (S → Type 0) → (W → Option (List ℕ)) → Option (List ℕ) → S → List DictionaryEntry
    → Told → List ℕ → ℕ → IndexWriter W WriterSections → Type 0
HasToldSome heading current yields sure contents before source given told last next writer =
    AppendsFront before (contents (sink writer)) (settled_front told)
    ⊎ ((gave : GivesEntry heading current source given told last next) × (sure source → YieldsBehind yields source gave.postings) × AppendsFront before (contents (sink writer)) (settled_front (told_then gave.begun (heading source).first gave.postings)))
