-- The listings that the bytes of a dictionary may be of.
use Rattle.std.specs.Prelude.{◌≡◌, ℕ, ◌^◌, ◌<◌, List, map, length, sum_by, All}
use Rattle.ix_text.specs.ByteOrder.{IsAscending}
use Rattle.ix_text.specs.Terms.{IsTerm}
use Rattle.ix_index_text.specs.Listings.{Listing, listings_section}
use Rattle.ix_index_text.specs.Sections.{Version}

-- A term with two counts that have a code.
pub record IsReadable (listing : Listing) : Type 0 where
  pub term : IsTerm listing.term
  pub documents : listing.documents < 2 ^ 32
  pub size : listing.size < 2 ^ 32

-- How many bytes the lists have together.
abbrev pub sizes_sum : List Listing → ℕ
sizes_sum listings = sum_by (λ listing. listing.size) listings

-- The bytes are the dictionary of these listings: that many, of ascending terms, whose lists have that many bytes.
pub record IsOfListings (version : Version) (section : List ℕ) (count postings : ℕ) (listings : List Listing) : Type 0 where
  pub readable : All IsReadable listings
  pub ascending : IsAscending (map (λ listing. listing.term) listings)
  pub counted : length listings ≡ count
  pub sized : sizes_sum listings ≡ postings
  pub spelled : section ≡ listings_section version listings

-- The bytes are no dictionary of that many terms and bytes of lists.
abbrev pub IsOfNone : Version → List ℕ → ℕ → ℕ → Type 0
IsOfNone version section count postings = (listings : List Listing) → ¬ (IsOfListings version section count postings listings)
