-- The terms that are found.
use Rattle.std.specs.Prelude.{◌≡◌, ℕ, ◌+◌, List, [], ◌∷◌, ◌++◌, ◌⊎◌, map, string_bytes}
use Rattle.ix_index_text.specs.Listings.{Listing}
use Rattle.ix_index_text.specs.Sections.{Version}
use Rattle.ix_lookup.specs.Listed.{IsOfListings}
use Rattle.ix_lookup.specs.declared.found_term.FoundTerm.{FoundTerm}

-- A listing, and the place at which its list begins.
pub record PlacedListing : Type 0 where
  pub listing : Listing
  pub start : ℕ

-- What a term that was found says.
abbrev pub placed_of : FoundTerm → PlacedListing
placed_of found =
    record { listing = record { term = string_bytes found.term; documents = found.documents; size = found.size }; start = found.start }

-- Of listings whose lists begin at `start`, exactly those of terms that are looked for were found, in their order, each
-- with the place at which its list begins.
abbrev pub AreFound : (List ℕ → Type 0) → ℕ → List Listing → List PlacedListing → Type 0
AreFound wants start [] found = found ≡ []
AreFound wants start (listing ∷ listings) found =
    (wants listing.term × ((others : List PlacedListing) × (found ≡ record { listing = listing; start = start } ∷ others) × AreFound wants (start + listing.size) listings others))
    ⊎ (¬ (wants listing.term) × AreFound wants (start + listing.size) listings found)

-- They were found in the bytes, whichever listings the bytes are the dictionary of.
abbrev pub AreFoundIn : Version → List ℕ → ℕ → ℕ → (List ℕ → Type 0) → List FoundTerm → Type 0
AreFoundIn version section count postings wants found =
    (listings : List Listing) → IsOfListings version section count postings listings → AreFound wants 0 listings (map placed_of found)

-- This term was found as well.
pub record IsAdded (term : List ℕ) (documents start size : ℕ) (old new : List FoundTerm) : Type 0 where
  pub one : FoundTerm
  pub pushed : new ≡ old ++ one ∷ []
  pub placed : placed_of one ≡ record { listing = record { term = term; documents = documents; size = size }; start = start }

-- This term was found as well if it is looked for, and otherwise none.
abbrev pub IsNoted : (List ℕ → Type 0) → List ℕ → ℕ → ℕ → ℕ → List FoundTerm → List FoundTerm → Type 0
IsNoted wants term documents start size old new = (wants term × IsAdded term documents start size old new) ⊎ (¬ (wants term) × (new ≡ old))

-- Some term was found as well, or none.
abbrev pub HasAtMostOneMore : ℕ → ℕ → ℕ → List FoundTerm → List FoundTerm → Type 0
HasAtMostOneMore documents start size old new = ((term : List ℕ) × IsAdded term documents start size old new) ⊎ (new ≡ old)
