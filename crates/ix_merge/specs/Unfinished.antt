-- What a merge of sure sources has written if it stops.
use Rattle.std.specs.Prelude.{◌≡◌, ◌⊎◌, ℕ, List, ◌++◌, Option}
use Rattle.ix_text.specs.Parts.{DictionaryEntry, Posting}
use Rattle.ix_output.specs.Sinks.{AppendsFront}
use Rattle.ix_file.specs.IndexText.{magic}
use Rattle.ix_file.specs.Sections.{FrontCoded, postings_section}
use Rattle.ix_file.specs.Writers.{sink}
use Rattle.ix_file.specs.WriterSections.{WriterSections}
use Rattle.ix_file.specs.IndexWriter.{IndexWriter}
use Rattle.ix_run.specs.Heads.{Heading}
use Rattle.ix_run.specs.Sources.{Yielding}
use Rattle.ix_merge.specs.Merged.{HasMergedAll}

-- Entries that a source may yield after these postings of its current term.
pub record YieldsBehind {S : Type 0} (yields : Yielding S) (source : S) (postings : List Posting) : Type 0 where
  pub entries : List DictionaryEntry
  pub yielded : yields source postings entries

-- Since `before`, a front went out of what is settled by a merge of all that the sources may yield.
pub record HasMergedFront {S : Type 0} (yields : Yielding S) (heading : S → Heading) (begun : List S) (before now : Option (List ℕ)) : Type 0 where
  pub entries : List DictionaryEntry
  pub all : HasMergedAll yields heading begun entries
  pub gained : AppendsFront before now (magic FrontCoded ++ postings_section entries)

-- nothing was written, or such a front
abbrev pub LeavesMergedFront : {S W : Type 0} → Yielding S → (S → Heading) → (W → Option (List ℕ)) → List S → Option (List ℕ) → IndexWriter W WriterSections → IndexWriter W WriterSections → Type 0
LeavesMergedFront yields heading contents begun before old new = (sink new ≡ sink old) ⊎ HasMergedFront yields heading begun before (contents (sink new))
