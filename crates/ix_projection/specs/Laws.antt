-- What a collection with fewer terms has of the whole one: its postings, lawfulness, rows, names, parts and index text.
use Rattle.std.specs.Prelude.{◌≡◌, ◌↔◌, ℕ, List, true, map}
use Rattle.ix_text.specs.Collections.{Collection, HasPosting, IsLawful}
use Rattle.ix_text.specs.Parts.{Parts, GramEntry, ArePartsOf, row_of, terms_of}
use Rattle.ix_index_text.specs.Grams.{AreGramsOfTerms}
use Rattle.ix_index_text.specs.IndexText.{IsIndexText, layout}
use Rattle.ix_index_text.specs.Sections.{Version}
use Rattle.ix_projection.specs.Kept.{Test, kept_collection, kept_entries, kept_parts}

-- the postings are those of the kept terms
abbrev pub KeepsPostings : Type 0
KeepsPostings =
    (keeps : Test) (collection : Collection) (term : List ℕ) (number position : ℕ)
    → HasPosting (kept_collection keeps collection) term number position ↔ (HasPosting collection term number position × (keeps term ≡ true))

-- it is lawful if the whole one is
abbrev pub KeepsLawful : Type 0
KeepsLawful = (keeps : Test) (collection : Collection) → IsLawful collection → IsLawful (kept_collection keeps collection)

-- its documents have the same rows
abbrev pub KeepsRows : Type 0
KeepsRows = (keeps : Test) (collection : Collection) → map row_of (kept_collection keeps collection).documents ≡ map row_of collection.documents

-- its documents have the same names
abbrev pub KeepsNames : Type 0
KeepsNames =
    (keeps : Test) (collection : Collection)
    → map (λ document. document.name) (kept_collection keeps collection).documents ≡ map (λ document. document.name) collection.documents

-- its parts are those of the whole one, with a dictionary of the kept terms
abbrev pub KeepsParts : Type 0
KeepsParts = (keeps : Test) (collection : Collection) (parts : Parts) → ArePartsOf collection parts → ArePartsOf (kept_collection keeps collection) (kept_parts keeps parts)

-- its index text, of either version, is that of these parts, with the grams of the kept terms
abbrev pub KeepsIndexText : Type 0
KeepsIndexText =
    (keeps : Test) (version : Version) (collection : Collection) (parts : Parts) (grams : List GramEntry) → IsLawful collection → ArePartsOf collection parts
    → AreGramsOfTerms (terms_of (kept_entries keeps parts.entries)) grams → IsIndexText version (kept_collection keeps collection) (layout version (kept_parts keeps parts) grams)
