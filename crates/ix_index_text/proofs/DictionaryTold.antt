-- The dictionary tells of each term its bytes and its counts, and with them POSTINGS tells the postings.
use Rattle.std.proofs.Common.{◌≡◌, ℕ, List, [], ◌∷◌, map, flat_map, All, refl, sym, ap, ap₂, ◌∙◌}
use Rattle.std.proofs.lemmas.List.Elements.{All-head, All-tail}
use Rattle.ix_text.specs.Parts.{DictionaryEntry}
use Rattle.ix_text.proofs.PartsLemmas.{same_entry_fields}
use Rattle.ix_vbyte.specs.Postings.{ArePostings, list_bytes}
use Rattle.ix_vbyte.proofs.Postings.{list_apart}
use Rattle.ix_index_text.specs.Listings.{Listing, listing_of}
use Rattle.ix_index_text.specs.Sections.{Version, dictionary_section}
use Rattle.ix_index_text.proofs.ListingsTold.{dictionary_listings, listings_told}

pub dictionary_told : (version : Version) (es fs : List DictionaryEntry) → dictionary_section version es ≡ dictionary_section version fs → map listing_of es ≡ map listing_of fs
dictionary_told version es fs e = listings_told version (map listing_of es) (map listing_of fs) (sym (dictionary_listings version es) ∙ e ∙ dictionary_listings version fs)

-- lists of as many postings are those of one dictionary
pub lists_told : (top : ℕ) (es fs : List DictionaryEntry) → All (λ entry. ArePostings 0 top entry.postings) es → All (λ entry. ArePostings 0 top entry.postings) fs → map listing_of es ≡ map listing_of fs → flat_map (λ entry. list_bytes entry.postings) es ≡ flat_map (λ entry. list_bytes entry.postings) fs → es ≡ fs
lists_told top [] [] a b listings e = refl
lists_told top [] (f ∷ fs) a b listings e = cc
lists_told top (x ∷ es) [] a b listings e = cc
lists_told top (x ∷ es) (f ∷ fs) a b listings e =
    let P = λ (entry : DictionaryEntry). ArePostings 0 top entry.postings in
    let first : listing_of x ≡ listing_of f = cc in
    let others : map listing_of es ≡ map listing_of fs = cc in
    let lists = list_apart 0 top x.postings f.postings (flat_map (λ (entry : DictionaryEntry). list_bytes entry.postings) es) (flat_map (λ (entry : DictionaryEntry). list_bytes entry.postings) fs) (All-head P x es a) (All-head P f fs b) (ap (λ (listing : Listing). listing.documents) first) e in
    ap₂ (λ (entry : DictionaryEntry) (entries : List DictionaryEntry). entry ∷ entries) (same_entry_fields x f (ap (λ (listing : Listing). listing.term) first) lists.0) (lists_told top es fs (All-tail P x es a) (All-tail P f fs b) others lists.1)
