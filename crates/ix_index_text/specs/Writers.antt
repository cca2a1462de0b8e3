-- What a caller sees of a writer of an index text: what it was told, where it writes, and whether it refused.
use Rattle.std.specs.Prelude.{◌≡◌, ℕ, List, Option, None, Some}
use Rattle.ix_index_text.specs.Telling.{IsTold, CanPost, CanList, CanClose}
use Rattle.ix_index_text.specs.Told.{Told}
use Rattle.ix_index_text.specs.declared.put_error.PutError.{PutError}
use Rattle.ix_index_text.specs.declared.sections.WriterSections.{WriterSections}
use Rattle.ix_index_text.specs.declared.writer.IndexWriter.{IndexWriter}

module _ {W S : Type 0} where
  -- what the writer writes to, as it is now
  abbrev pub sink : IndexWriter W S → W
  sink writer = writer.out.now

  -- which of the caller's `&mut` that is
  abbrev pub sink_name : IndexWriter W S → ℕ
  sink_name writer = writer.out.ghost_name

module _ {W : Type 0} where
  -- nothing was refused so far
  abbrev pub IsReady : IndexWriter W WriterSections → Type 0
  IsReady writer = writer.sections.refusal ≡ None

  -- something was refused, and the next call answers this error
  abbrev pub Answers : IndexWriter W WriterSections → PutError → Type 0
  Answers writer error = writer.sections.refusal ≡ Some error

  -- Nothing was refused, and the writer was told this. With `contents`, which gives the bytes that a sink holds where
  -- they are known: since the sink held `before`, a front of what is settled by this went out, and the rest is kept.
  abbrev pub WasTold : (W → Option (List ℕ)) → Option (List ℕ) → IndexWriter W WriterSections → Told → Type 0
  WasTold contents before writer told = IsTold before (contents writer.out.now) writer.sections told

  -- Some parts were told to the writer, behind which such a posting may be told: an entry is at hand, its documents are
  -- before this one, and positions are few enough with so many more.
  abbrev pub TakesPosting : IndexWriter W WriterSections → ℕ → ℕ → Type 0
  TakesPosting writer document count = CanPost writer.sections document count

  -- Some parts were told to the writer, behind which these bytes may be told: an entry is at hand, they are those of
  -- postings behind its own, so many and the last of them before `next`, and positions are few enough with theirs.
  abbrev pub TakesList : IndexWriter W WriterSections → ℕ → ℕ → List ℕ → Type 0
  TakesList writer documents next bytes = CanList writer.sections documents next bytes

  -- some parts were told to the writer, and the last entry, if there is one, has a posting
  abbrev pub CanEndEntry : IndexWriter W WriterSections → Type 0
  CanEndEntry writer = CanClose writer.sections
