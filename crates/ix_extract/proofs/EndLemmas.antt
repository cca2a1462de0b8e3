-- What is read of a frame by its ends.
use Rattle.std.proofs.Common.{◌≡◌, ℕ, ◌-◌, ◌^◌, ◌<◌, ◌++◌, List, [], Option, Some, length, take, drop, ap, ap₂, ◌∙◌, arith}
use Rattle.ix_index_text.specs.Sections.{Version}
use Rattle.ix_file.specs.Frames.{FileSectionTexts, framed, joined_sections}
use Rattle.ix_extract.specs.Framed.{HasNoFrame, IsFramed, IsTrailerIn}
use Rattle.ix_extract.specs.Trailers.{IsTrailerOf, ends_of}
use Rattle.ix_extract.specs.declared.trailer.Trailer.{Trailer}
use Rattle.ix_extract.proofs.FrameLemmas.{ranges}

module _ (contents : Option (List ℕ)) where
  -- the bytes have this size, if they are known
  abbrev pub HasSize : ℕ → Type 0
  HasSize size = (bytes : List ℕ) → contents ≡ Some bytes → size ≡ length bytes

  -- both ends were read
  abbrev pub AreEndsAt : ℕ → List ℕ → Type 0
  AreEndsAt size frame = (bytes : List ℕ) → contents ≡ Some bytes → frame ≡ take 8 bytes ++ take 56 (drop (size - 56) bytes)

  -- they were appended one behind the other
  pub ends_appended : (size : ℕ) (none one two frame : List ℕ) → none ≡ [] → ((bytes : List ℕ) → contents ≡ Some bytes → one ≡ none ++ take 8 bytes) → ((bytes : List ℕ) → contents ≡ Some bytes → two ≡ one ++ take 56 (drop (size - 56) bytes)) → frame ≡ two
      → AreEndsAt size frame
  ends_appended size none one two frame empty first second is bytes known =
      is ∙ second bytes known ∙ ap (λ (xs : List ℕ). xs ++ take 56 (drop (size - 56) bytes)) (first bytes known ∙ ap (λ (xs : List ℕ). xs ++ take 8 bytes) empty)

  -- a source of fewer bytes has no frame
  pub too_short : (size : ℕ) → HasSize size → size < 64 → HasNoFrame contents
  too_short size told short version texts documents terms is =
      let all = (ranges version texts documents terms).size in
      let same = told _ is.known in
      omega (arith, all, same, short)

  pub sections_size : (size : ℕ) → HasSize size → (version : Version) (texts : FileSectionTexts) (documents terms : ℕ) → IsFramed contents version texts documents terms → length (joined_sections texts) ≡ size - 64
  sections_size size told version texts documents terms is =
      let all = (ranges version texts documents terms).size in
      let same = told _ is.known in
      omega (arith, all, same)

  ends_read : (size : ℕ) (frame : List ℕ) → HasSize size → AreEndsAt size frame → (version : Version) (texts : FileSectionTexts) (documents terms : ℕ) → IsFramed contents version texts documents terms → frame ≡ ends_of version texts documents terms
  ends_read size frame told read version texts documents terms is =
      let bytes = framed version texts documents terms in
      let parts = ranges version texts documents terms in
      read _ is.known ∙ ap (λ n. take 8 bytes ++ take 56 (drop (n - 56) bytes)) (told _ is.known) ∙ ap₂ (λ (xs : List ℕ) (ys : List ℕ). xs ++ ys) parts.mark_range parts.trailer_range

  -- ends that are no frame's were read of no frame
  pub no_trailer : (size : ℕ) (frame : List ℕ) → HasSize size → AreEndsAt size frame
      → ((version : Version) (texts : FileSectionTexts) (documents terms : ℕ) → documents < 2 ^ 32 → terms < 2 ^ 32 → length (joined_sections texts) ≡ size - 64 → frame ≡ ends_of version texts documents terms → ⊥) → HasNoFrame contents
  no_trailer size frame told read none version texts documents terms is =
      none version texts documents terms is.few_documents is.few_terms (sections_size size told version texts documents terms is) (ends_read size frame told read version texts documents terms is)

  pub trailer_told : (size : ℕ) (frame : List ℕ) (trailer : Trailer) → HasSize size → AreEndsAt size frame
      → ((version : Version) (texts : FileSectionTexts) (documents terms : ℕ) → documents < 2 ^ 32 → terms < 2 ^ 32 → length (joined_sections texts) ≡ size - 64 → frame ≡ ends_of version texts documents terms → IsTrailerOf version texts documents terms trailer)
      → IsTrailerIn contents trailer
  trailer_told size frame trailer told read found version texts documents terms is =
      found version texts documents terms is.few_documents is.few_terms (sections_size size told version texts documents terms is) (ends_read size frame told read version texts documents terms is)
