-- What every index text shows of itself.
use Rattle.std.specs.Prelude.{◌≡◌, ℕ, ◌≤◌, List, length}
use Rattle.ix_text.specs.Collections.{Collection, IsLawful}
use Rattle.ix_index_text.specs.IndexText.{IsIndexText}
use Rattle.ix_index_text.specs.Sections.{Version, Plain, FrontCoded}

-- an index text has at least the bytes of its marks and its trailer
abbrev pub HasSixtyFourBytes : Type 0
HasSixtyFourBytes = (version : Version) (collection : Collection) (bytes : List ℕ) → IsIndexText version collection bytes → 64 ≤ length bytes

-- no text is an index text of both versions
abbrev pub HasOneVersion : Type 0
HasOneVersion = (one other : Collection) (bytes : List ℕ) → IsIndexText Plain one bytes → ¬ (IsIndexText FrontCoded other bytes)

-- an index text of one version is that of one collection
abbrev pub IndexTextTellsCollection : Type 0
IndexTextTellsCollection = (version : Version) (one other : Collection) (bytes : List ℕ) → IsIndexText version one bytes → IsIndexText version other bytes → one ≡ other

-- and where the version is not known, the text tells it too
abbrev pub IndexTextTellsVersionAndCollection : Type 0
IndexTextTellsVersionAndCollection = (version another : Version) (one other : Collection) (bytes : List ℕ) → IsIndexText version one bytes → IsIndexText another other bytes → (version ≡ another) × (one ≡ other)

-- a lawful collection has an index text of each version
abbrev pub CollectionHasIndexText : Type 0
CollectionHasIndexText = (version : Version) (collection : Collection) → IsLawful collection → (bytes : List ℕ) × IsIndexText version collection bytes

-- and only one
abbrev pub CollectionHasOneIndexText : Type 0
CollectionHasOneIndexText = (version : Version) (collection : Collection) (one other : List ℕ) → IsIndexText version collection one → IsIndexText version collection other → one ≡ other
