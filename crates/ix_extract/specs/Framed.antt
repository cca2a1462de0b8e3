-- What is read of the frame of an index text.
use Rattle.std.specs.Prelude.{◌≡◌, ℕ, ◌^◌, ◌<◌, List, Option, Some}
use Rattle.ix_index_text.specs.Sections.{Version}
use Rattle.ix_file.specs.Frames.{FileSectionTexts, framed}
use Rattle.ix_extract.specs.Trailers.{IsTrailerOf}
use Rattle.ix_extract.specs.declared.trailer.Trailer.{Trailer}

-- The bytes are known, and are the frame of these sections with two counts of four bytes.
pub record IsFramed (contents : Option (List ℕ)) (version : Version) (texts : FileSectionTexts) (documents terms : ℕ) : Type 0 where
  pub known : contents ≡ Some (framed version texts documents terms)
  pub few_documents : documents < 2 ^ 32
  pub few_terms : terms < 2 ^ 32

-- The trailer is that of each frame that the bytes may be.
abbrev pub IsTrailerIn : Option (List ℕ) → Trailer → Type 0
IsTrailerIn contents trailer =
    (version : Version) (texts : FileSectionTexts) (documents terms : ℕ) → IsFramed contents version texts documents terms → IsTrailerOf version texts documents terms trailer

-- The bytes are no frame.
abbrev pub HasNoFrame : Option (List ℕ) → Type 0
HasNoFrame contents = (version : Version) (texts : FileSectionTexts) (documents terms : ℕ) → ¬ (IsFramed contents version texts documents terms)
