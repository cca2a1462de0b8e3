-- The terms that were read of the dictionary, as it lists them.
use Rattle.std.specs.Prelude.{◌≡◌, ℕ, ◌^◌, ◌<◌, List, Some, map, take, sum_by, slice_get, string_bytes, All, Contains}
use Rattle.ix_text.specs.ByteOrder.{IsAscending}
use Rattle.ix_text.specs.Terms.{IsTerm}
use Rattle.ix_index_text.specs.Listings.{Listing}
use Rattle.ix_file.specs.PlacedTerms.{PlacedTerm}
use Rattle.ix_file.specs.declared.open.dictionary.ListedTerm.{ListedTerm}

-- what a row of the table lists
abbrev pub listing_in : PlacedTerm → Listing
listing_in row = record { term = row.term; documents = row.documents; size = row.size }

-- what a term that was read is listed as
abbrev pub listing_read : ListedTerm → Listing
listing_read read = record { term = string_bytes read.term; documents = read.documents; size = read.size }

-- the rows of a table
abbrev pub listings_in : List PlacedTerm → List Listing
listings_in rows = map listing_in rows

-- how long the lists are in all
abbrev pub sizes_sum : List Listing → ℕ
sizes_sum listings = sum_by (λ listing. listing.size) listings

-- some documents, and counts that have a code
pub record HasListedCounts (listing : Listing) : Type 0 where
  pub some : 0 < listing.documents
  pub documents : listing.documents < 2 ^ 32
  pub size : listing.size < 2 ^ 32

-- Listings that a lawful dictionary may have: ascending terms, of which none is a stop term.
pub record AreListings (stop : List (List ℕ)) (listings : List Listing) : Type 0 where
  pub terms : All (λ listing. IsTerm listing.term) listings
  pub ascending : IsAscending (map (λ listing. listing.term) listings)
  pub unstopped : All (λ listing. ¬ (Contains stop listing.term)) listings
  pub counts : All HasListedCounts listings

-- the list of each row begins where those of the rows before it end
abbrev pub AreLaidOut : List PlacedTerm → Type 0
AreLaidOut rows = (n : ℕ) (row : PlacedTerm) → slice_get rows n ≡ Some row → row.start ≡ sizes_sum (listings_in (take n rows))
