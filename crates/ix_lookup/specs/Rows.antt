-- What is read of a row of a dictionary.
use Rattle.std.specs.Prelude.{◌≡◌, ℕ, ◌≤◌, List, ◌++◌, length, take, drop}
use Rattle.ix_vbyte.specs.Texts.{counted}
use Rattle.ix_index_text.specs.Listings.{Listing}
use Rattle.ix_lookup.specs.declared.row.Row.{Row}

-- The row that was read is that of the listing, and these bytes follow it.
pub record IsRowRead (before : List ℕ) (listing : Listing) (rest : List ℕ) (row : Row) : Type 0 where
  pub within : row.shared ≤ length before
  pub term : listing.term ≡ take row.shared before ++ row.own.now
  pub documents : row.documents ≡ listing.documents
  pub size : row.size ≡ listing.size
  pub others : row.rest.now ≡ rest

-- The term has the first `shared` bytes of the term before, and the others follow in the bytes behind their number.
pub record IsSharedRead (before term rest : List ℕ) (shared : ℕ) (bytes : List ℕ) : Type 0 where
  pub within : shared ≤ length before
  pub front : term ≡ take shared before ++ drop shared term
  pub own : bytes ≡ counted (drop shared term) ++ rest
