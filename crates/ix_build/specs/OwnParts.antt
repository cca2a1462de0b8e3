-- What a build that fails leaves of the collection's own index text.
use Rattle.std.specs.Prelude.{◌⊎◌, ℕ, List, Option}
use Rattle.std.specs.Io.KnownBytes.{Keeps}
use Rattle.ix_text.specs.Collections.{Collection}
use Rattle.ix_merge.specs.IndexText.{IsIndexText}
use Rattle.ix_merge.specs.Pieces.{WritesPart}
use Rattle.ix_merge.specs.Sections.{FrontCoded}

-- Since `before`, a prefix of the index text of the collection was written, and the whole of it only if `if_whole` holds.
pub record WritesOwnPart (collection : Collection) (before now : Option (List ℕ)) (if_whole : Type 0) : Type 0 where
  pub text : List ℕ
  pub of_collection : IsIndexText FrontCoded collection text
  pub gained : WritesPart before now text if_whole

-- nothing was written, or such a prefix
abbrev pub LeavesOwnPart : Collection → Option (List ℕ) → Option (List ℕ) → Type 0 → Type 0
LeavesOwnPart collection before now if_whole = Keeps before now ⊎ WritesOwnPart collection before now if_whole
