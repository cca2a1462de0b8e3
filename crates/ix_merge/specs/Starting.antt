-- Sources whose first terms were read.
use Rattle.std.specs.Prelude.{◌≡◌, ℕ, ◌<◌, List, [], ◌∷◌, length, Option, MatchOption, slice_index_or}
use Rattle.ix_text.specs.Parts.{DictionaryEntry, Posting}
use Rattle.ix_run.specs.Heads.{Heading}
use Rattle.ix_run.specs.Sources.{Giving, Yielding, entry_with}
use Rattle.ix_merge.specs.Turns.{bare_entry}

-- From the old state, from which nothing was read, to the new one a source came to its first term, or to its end.
pub record HasStarted {S : Type 0} (heading : S → Heading) (current : S → Option (List ℕ)) (yields : Yielding S) (gives : Giving S) (old new : S) : Type 0 where
  pub same : heading new ≡ heading old
  pub gives_none : gives new [] (bare_entry (current new))
  pub yielded : MatchOption (current new) (yields old [] [])
      (λ term. (postings : List Posting) (entries : List DictionaryEntry) → yields new postings entries → yields old [] (entry_with term postings ∷ entries))

-- so did each
pub record HaveStarted {S : Type 0} (heading : S → Heading) (current : S → Option (List ℕ)) (yields : Yielding S) (gives : Giving S) (old new : List S) : Type 0 where
  pub as_many : length new ≡ length old
  pub each : (place : ℕ) (source : S) → place < length old → HasStarted heading current yields gives (slice_index_or old place source) (slice_index_or new place source)
