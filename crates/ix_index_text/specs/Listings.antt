-- The terms as the dictionary lists them: what DICTIONARY says, without the postings.
use Rattle.std.specs.Prelude.{ℕ, ◌+◌, ◌-◌, List, [], ◌∷◌, ◌++◌, map, length, get_or}
use Rattle.ix_text.specs.Parts.{DictionaryEntry}
use Rattle.ix_vbyte.specs.Code.{code_of}
use Rattle.ix_vbyte.specs.Postings.{list_bytes}
use Rattle.ix_vbyte.specs.Texts.{counted}
use Rattle.ix_index_text.specs.Sections.{Version, Plain, FrontCoded, grouped}

-- A term as the dictionary lists it: with the number of its documents, and of the bytes of its list.
pub record Listing : Type 0 where
  pub term : List ℕ
  pub documents : ℕ
  pub size : ℕ

-- what the dictionary lists of an entry
abbrev pub listing_of : DictionaryEntry → Listing
listing_of entry = record { term = entry.term; documents = length entry.postings; size = length (list_bytes entry.postings) }

-- a term at its place, behind the term before
abbrev pub dictionary_term_bytes : Version → ℕ → List ℕ → List ℕ → List ℕ
dictionary_term_bytes Plain place before term = counted term
dictionary_term_bytes FrontCoded place before term = grouped place before term

-- a listing at its place: the term, and its two counts
abbrev pub listing_bytes : Version → ℕ → List ℕ → Listing → List ℕ
listing_bytes version place before listing = dictionary_term_bytes version place before listing.term ++ (code_of listing.documents ++ code_of listing.size)

-- the listings from a place on, behind the term before
abbrev pub listings_from : Version → ℕ → List ℕ → List Listing → List ℕ
listings_from version place before [] = []
listings_from version place before (listing ∷ listings) =
    listing_bytes version place before listing ++ listings_from version (place + 1) listing.term listings

-- DICTIONARY, as the listings give it
unfoldable pub listings_section : Version → List Listing → List ℕ
listings_section version listings = listings_from version 0 [] listings

-- the term of the last listing, or the empty text
abbrev pub last_listed : List Listing → List ℕ
last_listed listings = get_or (map (λ listing. listing.term) listings) (length listings - 1) []
