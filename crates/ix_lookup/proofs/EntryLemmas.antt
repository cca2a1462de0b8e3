-- What is found in the dictionary of a lawful collection are entries of it.
use Rattle.std.proofs.Common.{◌≡◌, ℕ, ◌+◌, ◌-◌, List, [], ◌∷◌, ◌++◌, inl, inr, map, flat_map, length, take, drop, All, slice_range, refl, sym, ap, ◌∙◌, subst, arith, length-append}
use Rattle.std.proofs.lemmas.List.{append_assoc, length-map}
use Rattle.std.proofs.lemmas.List.Elements.{All-cons, All-head, All-tail}
use Rattle.std.proofs.lemmas.List.Sums.{sum_by-cons}
use Rattle.std.proofs.Math.Seq.{drop-append_seam, take-append_seam}
use Rattle.ix_text.specs.ByteOrder.{IsAscending}
use Rattle.ix_text.specs.Collections.{Collection, IsLawful}
use Rattle.ix_text.specs.Parts.{DictionaryEntry, Parts, ArePartsOf, terms_of}
use Rattle.ix_vbyte.specs.Postings.{list_bytes}
use Rattle.ix_index_text.specs.Listings.{Listing, listing_of}
use Rattle.ix_index_text.specs.Sections.{Version, postings_section, dictionary_section}
use Rattle.ix_index_text.proofs.ListingsTold.{dictionary_listings}
use Rattle.ix_index_text.proofs.SectionSizes.{AreSmall, small_parts, small_entries}
use Rattle.ix_lookup.specs.FoundEntries.{IsFoundEntry, AreFoundEntries, FindsEntries}
use Rattle.ix_lookup.specs.FoundTerms.{PlacedListing, placed_of, AreFound}
use Rattle.ix_lookup.specs.Listed.{IsReadable, IsOfListings, sizes_sum}
use Rattle.ix_lookup.specs.declared.found_term.FoundTerm.{FoundTerm}

-- the lists of entries, one behind another
abbrev pub lists : List DictionaryEntry → List ℕ
lists entries = flat_map (λ entry. list_bytes entry.postings) entries

listed_readable : (entries : List DictionaryEntry) → All (λ entry. IsReadable (listing_of entry)) entries → All IsReadable (map listing_of entries)
listed_readable [] are = λ k d h. absurd (omega arith)
listed_readable (entry ∷ entries) are =
    let P = λ (e : DictionaryEntry). IsReadable (listing_of e) in
    All-cons IsReadable (listing_of entry) (map listing_of entries) (All-head P entry entries are) (listed_readable entries (All-tail P entry entries are))

listed_terms : (entries : List DictionaryEntry) → map (λ listing. listing.term) (map listing_of entries) ≡ terms_of entries
listed_terms [] = refl
listed_terms (entry ∷ entries) = ap (λ terms. entry.term ∷ terms) (listed_terms entries)

listed_sizes : (entries : List DictionaryEntry) → sizes_sum (map listing_of entries) ≡ length (lists entries)
listed_sizes [] = refl
listed_sizes (entry ∷ entries) =
    omega (arith, sum_by-cons (λ (l : Listing). l.size) (listing_of entry) (map listing_of entries), listed_sizes entries, length-append (list_bytes entry.postings) (lists entries))

-- the dictionary of a lawful collection is that of the listings of its entries
pub of_entries : (version : Version) (collection : Collection) (parts : Parts) → IsLawful collection → ArePartsOf collection parts
    → IsOfListings version (dictionary_section version parts.entries) (length parts.entries) (length (postings_section parts.entries)) (map listing_of parts.entries)
unfolding postings_section
of_entries version collection parts lawful of =
    let small : AreSmall parts = small_parts collection parts lawful of in
    let each = small_entries parts small in
    record {
      readable = listed_readable parts.entries (λ k d h. record {
        term = (small.lawful.terms k d h).term;
        documents = (each k d h).documents;
        size = (each k d h).size;
      });
      ascending = subst IsAscending (sym (listed_terms parts.entries)) small.lawful.ascending;
      counted = length-map parts.entries listing_of;
      sized = listed_sizes parts.entries;
      spelled = dictionary_listings version parts.entries;
    }

-- a part between others
between : (front list rest : List ℕ) → slice_range (front ++ (list ++ rest)) (length front) (length front + length list) ≡ list
between front list rest =
    let size : length front + length list - length front ≡ length list = omega arith in
    ap (λ n. take n (drop (length front) (front ++ (list ++ rest)))) size ∙ ap (take (length list)) (drop-append_seam front (list ++ rest)) ∙ take-append_seam list rest

-- a listing that was found is the entry
entry_found : (postings front rest : List ℕ) (entry : DictionaryEntry) (one : FoundTerm) → postings ≡ front ++ (list_bytes entry.postings ++ rest) → placed_of one ≡ record { listing = listing_of entry; start = length front } → IsFoundEntry postings entry one
entry_found postings front rest entry one is placed =
    let start : one.start ≡ length front = ap (λ (p : PlacedListing). p.start) placed in
    let size : one.size ≡ length (list_bytes entry.postings) = ap (λ (p : PlacedListing). p.listing.size) placed in
    record {
      term = ap (λ (p : PlacedListing). p.listing.term) placed;
      documents = ap (λ (p : PlacedListing). p.listing.documents) placed;
      list = ap (λ bytes. slice_range bytes one.start (one.start + one.size)) is
          ∙ ap (λ n. slice_range (front ++ (list_bytes entry.postings ++ rest)) n (n + one.size)) start
          ∙ ap (λ n. slice_range (front ++ (list_bytes entry.postings ++ rest)) (length front) (length front + n)) size
          ∙ between front (list_bytes entry.postings) rest;
    }

-- behind a front of POSTINGS
entries_found : (wants : List ℕ → Type 0) (postings front : List ℕ) (entries : List DictionaryEntry) (found : List FoundTerm) → postings ≡ front ++ lists entries → AreFound wants (length front) (map listing_of entries) (map placed_of found) → AreFoundEntries wants postings entries found
entries_found wants postings front [] found is are = none found are
  where
    none : (found : List FoundTerm) → map placed_of found ≡ [] → found ≡ []
    none [] e = refl
    none (one ∷ others) e = cc
entries_found wants postings front (entry ∷ entries) found is are = split found are (λ more rest. entries_found wants postings (front ++ list_bytes entry.postings) entries more (is ∙ sym (append_assoc front (list_bytes entry.postings) (lists entries)))
    (subst (λ n. AreFound wants n (map listing_of entries) (map placed_of more)) (sym (length-append front (list_bytes entry.postings))) rest))
  where
    split : (found : List FoundTerm) → AreFound wants (length front) (map listing_of (entry ∷ entries)) (map placed_of found)
        → ((more : List FoundTerm) → AreFound wants (length front + length (list_bytes entry.postings)) (map listing_of entries) (map placed_of more) → AreFoundEntries wants postings entries more)
        → AreFoundEntries wants postings (entry ∷ entries) found
    split [] (inl add) rest = let e : [] ≡ record { listing = listing_of entry; start = length front } ∷ add.1.0 = add.1.1 in absurd (cc)
    split (one ∷ more) (inl add) rest =
        let e : placed_of one ∷ map placed_of more ≡ record { listing = listing_of entry; start = length front } ∷ add.1.0 = add.1.1 in
        let placed : placed_of one ≡ record { listing = listing_of entry; start = length front } = cc in
        let others : map placed_of more ≡ add.1.0 = cc in
        inl (
          add.0,
          (one, more, refl, entry_found postings front (lists entries) entry one is placed, rest more (subst (AreFound wants (length front + length (list_bytes entry.postings)) (map listing_of entries)) (sym others) add.1.2)),
        )
    split found (inr none) rest = inr (none.0, rest found none.1)

-- terms that were found are entries
pub finds_entries : (wants : List ℕ → Type 0) → FindsEntries wants
unfolding postings_section
finds_entries wants version collection parts found lawful of are =
    entries_found wants (postings_section parts.entries) [] parts.entries found refl (are (map listing_of parts.entries) (of_entries version collection parts lawful of))
