-- Prefixes of a collection's own index text.
use Rattle.std.proofs.Common.{◌≡◌, ℕ, List, Option, Result, Ok, Err, IfErr, OnErr, refl, subst, inl, inr}
use Rattle.ix_text.specs.Collections.{Collection}
use Rattle.ix_merge.specs.IndexText.{IsIndexText}
use Rattle.ix_merge.specs.Pieces.{WritesPart}
use Rattle.ix_merge.specs.Sections.{FrontCoded}
use Rattle.ix_build.specs.AlikeFronts.{LeavesAlikeFront}
use Rattle.ix_build.specs.OwnParts.{LeavesOwnPart, WritesOwnPart}

module _ (before now : Option (List ℕ)) (collection : Collection) where
  -- the text of the collection was cut, and the whole of it went out only if what was told is told so
  pub own_part : (whole : Collection) (text : List ℕ) (if_whole told : Type 0) → whole ≡ collection → IsIndexText FrontCoded whole text → (if_whole → told) → WritesPart before now text if_whole
      → WritesOwnPart collection before now told
  own_part whole text if_whole told same of_whole told_so part = record {
    text = text;
    of_collection = subst (λ (c : Collection). IsIndexText FrontCoded c text) same of_whole;
    gained = record { front = part.front; cut = λ none. told_so (part.cut none) };
  }

  -- a prefix of its own text is one of the text of a collection like it
  own_alike : (if_whole : Type 0) → LeavesOwnPart collection before now if_whole → LeavesAlikeFront collection before now
  own_alike if_whole (inl keeps) = inl keeps
  own_alike if_whole (inr part) = inr (record {
    whole = collection;
    alike = record { stop = refl; rows = refl };
    text = part.text;
    of_whole = part.of_collection;
    gained = part.gained.front;
  })

  pub own_front : {T E : Type 0} (result : Result T E) (if_whole : E → Type 0) → IfErr result (λ error. LeavesOwnPart collection before now (if_whole error)) → OnErr result (LeavesAlikeFront collection before now)
  own_front (Ok done) if_whole left = tt
  own_front (Err error) if_whole left = own_alike (if_whole error) left
