-- What a build that fails leaves, and what a build over stores writes.
use Rattle.std.specs.Prelude.{◌≡◌, ◌⊎◌, ℕ, List, Option, map}
use Rattle.std.specs.Io.KnownBytes.{Keeps}
use Rattle.ix_text.specs.Collections.{Collection}
use Rattle.ix_text.specs.Parts.{row_of}
use Rattle.ix_output.specs.Sinks.{AppendsFront}
use Rattle.ix_merge.specs.Endings.{WritesIndexText}
use Rattle.ix_merge.specs.IndexText.{IsIndexText}
use Rattle.ix_merge.specs.Sections.{FrontCoded}

-- Two collections have the same stop terms, and documents of the same names and token counts.
pub record AreAlike (one other : Collection) : Type 0 where
  pub stop : one.stop ≡ other.stop
  pub rows : map row_of one.documents ≡ map row_of other.documents

-- Since `before`, a prefix of the index text of a collection like this one was written.
pub record WritesAlikeFront (collection : Collection) (before now : Option (List ℕ)) : Type 0 where
  pub whole : Collection
  pub alike : AreAlike whole collection
  pub text : List ℕ
  pub of_whole : IsIndexText FrontCoded whole text
  pub gained : AppendsFront before now text

-- nothing was written, or a prefix of such a text
abbrev pub LeavesAlikeFront : Collection → Option (List ℕ) → Option (List ℕ) → Type 0
LeavesAlikeFront collection before now = Keeps before now ⊎ WritesAlikeFront collection before now

-- Since `before`, the index text of a collection like this one was written.
pub record WritesAlike (collection : Collection) (before now : Option (List ℕ)) : Type 0 where
  pub whole : Collection
  pub alike : AreAlike whole collection
  pub written : WritesIndexText before now whole
