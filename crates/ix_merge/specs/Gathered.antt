-- The lists of the pending entry that were gathered, one after another, and are not written yet.
use Rattle.std.specs.Prelude.{◌≡◌, ℕ, ◌<◌, List, [], Option, string_bytes}
use Rattle.ix_text.specs.Parts.{Posting}
use Rattle.ix_file.specs.Telling.{IsClosable, MayList}
use Rattle.ix_file.specs.Told.{Told, with_postings}
use Rattle.ix_file.specs.Writers.{WasTold}
use Rattle.ix_file.specs.WriterSections.{WriterSections}
use Rattle.ix_file.specs.IndexWriter.{IndexWriter}
use Rattle.ix_merge.specs.declared.pending_entry.PendingEntry.{PendingEntry}

-- Nothing was gathered.
pub record HasNothing (entry : PendingEntry) : Type 0 where
  pub documents : entry.documents ≡ 0
  pub list : entry.list.items ≡ []

-- There is no pending entry yet.
pub record IsNewEntry (entry : PendingEntry) : Type 0 where
  pub term : string_bytes entry.term ≡ []
  pub nothing : HasNothing entry

-- What was gathered is a list that may be written after the base, which makes this of it.
pub record GathersList (base : Told) (entry : PendingEntry) (told : Told) : Type 0 where
  pub postings : List Posting
  pub may : MayList base postings entry.documents entry.end entry.list.items
  pub told_with : told ≡ with_postings base postings

-- The writer was given this but for what was gathered: all of it if nothing was.
pub record HasGathered {W : Type 0} (contents : W → Option (List ℕ)) (before : Option (List ℕ))
    (writer : IndexWriter W WriterSections) (entry : PendingEntry) (told : Told) : Type 0 where
  pub base : Told
  pub was : WasTold contents before writer base
  pub none : entry.documents ≡ 0 → (entry.list.items ≡ []) × (told ≡ base)
  pub some : 0 < entry.documents → GathersList base entry told

-- the same for something that the writer was given
pub record HasGatheredSome {W : Type 0} (contents : W → Option (List ℕ)) (writer : IndexWriter W WriterSections)
    (entry : PendingEntry) : Type 0 where
  pub before : Option (List ℕ)
  pub told : Told
  pub has : HasGathered contents before writer entry told

-- and the last entry, if there is one, has a posting
pub record MayBegin {W : Type 0} (contents : W → Option (List ℕ)) (writer : IndexWriter W WriterSections)
    (entry : PendingEntry) : Type 0 where
  pub before : Option (List ℕ)
  pub told : Told
  pub has : HasGathered contents before writer entry told
  pub closable : IsClosable told
