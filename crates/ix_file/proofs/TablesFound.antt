-- What was read of the sections, one by one, is what an index holds: tables that tell lawful parts, which spell the sections.
use Rattle.std.proofs.Common.{◌≡◌, ℕ, ◌+◌, ◌^◌, ◌<◌, ◌≤◌, List, [], ◌∷◌, map, length, get_or, All, Contains, refl, sym, ap, ◌∙◌, subst, arith}
use Rattle.std.proofs.lemmas.List.{get_or-map, length-map}
use Rattle.std.proofs.lemmas.List.Elements.{All-contains, All-map}
use Rattle.ix_text.specs.ByteOrder.{IsAscending}
use Rattle.ix_text.specs.Parts.{DictionaryEntry, DocumentRow, Posting}
use Rattle.ix_text.specs.PartsLaws.{AreLawful, IsLawfulTerm}
use Rattle.ix_text.specs.StopSets.{IsStopSet}
use Rattle.ix_text.specs.Terms.{IsTerm}
use Rattle.ix_text.specs.TokenLaws.{AreInOrder, IsPostingIn}
use Rattle.ix_text.proofs.TokensApart.{lawful_if_distinct, lawful_without_terms}
use Rattle.ix_file.specs.Frames.{FileSectionTexts}
use Rattle.ix_index_text.specs.Grams.{AreGramsOfTerms}
use Rattle.ix_index_text.specs.Listings.{Listing, listing_of, listings_section}
use Rattle.ix_file.specs.ReadListings.{AreLaidOut, AreListings, listing_in, listings_in, sizes_sum}
use Rattle.ix_file.specs.LongLists.{IsLongIn, place_count}
use Rattle.ix_file.specs.OpenedGrams.{IsGramRow, grams_in}
use Rattle.ix_file.specs.OpenedRows.{AreRows, IsNameRow, row_in, rows_in}
use Rattle.ix_file.specs.ReadLists.{AreListsIn}
use Rattle.ix_index_text.specs.Sections.{Version, documents_section, grams_section, stop_section}
use Rattle.ix_file.specs.Spelled.{AreSectionsOf}
use Rattle.ix_file.specs.Tables.{AreTablesOf, entries_in, entry_in, parts_in, term_in}
use Rattle.ix_file.specs.PlacedTerms.{PlacedTerm}
use Rattle.ix_file.specs.declared.open.tables.Tables.{Tables}
use Rattle.ix_index_text.proofs.ListingsTold.{dictionary_listings}
use Rattle.ix_file.proofs.ListsFound.{AreFew, IsListed, each_listed, entries_distinct, entries_listed, laid_out, lie_within, list_row, lists_are, lists_whole, postings_joined}
use Rattle.ix_file.proofs.OpenedLemmas.{terms_in}

-- what the readings of the sections answered
pub record AreRead (version : Version) (texts : FileSectionTexts) (tables : Tables) (document_count term_count : ℕ) : Type 0 where
  pub stop_set : IsStopSet tables.stop
  pub stop : texts.stop ≡ stop_section tables.stop
  pub rows : AreRows (rows_in texts.documents tables.rows.items)
  pub documents : texts.documents ≡ documents_section (rows_in texts.documents tables.rows.items)
  pub rows_counted : length tables.rows.items ≡ document_count
  pub few_documents : document_count ≤ 2 ^ 28
  pub names : All (IsNameRow texts.documents) tables.rows.items
  pub listings : AreListings tables.stop (listings_in tables.terms)
  pub dictionary : texts.dictionary ≡ listings_section version (listings_in tables.terms)
  pub terms_counted : length tables.terms ≡ term_count
  pub sizes : sizes_sum (listings_in tables.terms) ≡ length texts.postings
  pub laid_out : AreLaidOut tables.terms
  pub lists : List (List Posting)
  pub listed : AreListsIn (rows_in texts.documents tables.rows.items) texts.postings tables.terms lists
  pub longs : All (IsLongIn texts.postings tables.terms) tables.longs.items
  pub few_places : place_count tables.longs.items ≤ length texts.postings
  pub of_terms : AreGramsOfTerms (map term_in tables.terms) (grams_in texts.grams tables.grams.items)
  pub grams : texts.grams ≡ grams_section (grams_in texts.grams tables.grams.items)
  pub gaps : All (IsGramRow texts.grams) tables.grams.items

pub listed_terms : (rows : List PlacedTerm) → map (λ listing. listing.term) (listings_in rows) ≡ map term_in rows
listed_terms [] = refl
listed_terms (row ∷ rows) = ap (λ terms. term_in row ∷ terms) (listed_terms rows)

module _ (version : Version) (texts : FileSectionTexts) (tables : Tables) (document_count term_count : ℕ) (read : AreRead version texts tables document_count term_count) where
  abbrev rows : List DocumentRow
  rows = rows_in texts.documents tables.rows.items

  abbrev entries : List DictionaryEntry
  entries = entries_in texts.postings tables.terms

  few : AreFew rows
  few = record { documents = omega (arith, read.rows_counted, read.few_documents, length-map tables.rows.items (row_in texts.documents)); tokens = read.rows.few_tokens }

  within : All (λ row. row.start + row.size ≤ length texts.postings) tables.terms
  within = lie_within texts.postings 0 tables.terms (laid_out tables.terms read.laid_out) (omega (arith, read.sizes))

  each : All (IsListed rows texts.postings) tables.terms
  each = each_listed rows texts.postings tables.terms read.lists few read.listed.each

  listings : map listing_of entries ≡ listings_in tables.terms
  listings = entries_listed rows texts.postings tables.terms each within

  lawful_term : (row : PlacedTerm) → IsListed rows texts.postings row → IsTerm (term_in row) → (Contains tables.stop (term_in row) → ⊥) → IsLawfulTerm (parts_in texts tables) (entry_in texts.postings row)
  lawful_term row listed term no_stop = record {
    term = term;
    no_stop = no_stop;
    ordered = listed.are;
    in_range = λ number position has.
        (All-contains (IsPostingIn rows) (entry_in texts.postings row).postings (number, has.positions) listed.each has.among).in_range position has.positioned;
  }

  lawful_terms : All (IsLawfulTerm (parts_in texts tables)) entries
  lawful_terms =
      All-map (IsLawfulTerm (parts_in texts tables)) (entry_in texts.postings) tables.terms
      (λ k d below.
      let row = get_or tables.terms k d in
      let listed = listing_at k d below in
      lawful_term row (each k d below) (listed.0) (listed.1))
    where
      listing_at : (k : ℕ) (d : PlacedTerm) → k < length tables.terms → IsTerm (term_in (get_or tables.terms k d)) × (Contains tables.stop (term_in (get_or tables.terms k d)) → ⊥)
      listing_at k d below =
          let same = get_or-map listing_in tables.terms k d (listing_in d) below in
          let inside : k < length (listings_in tables.terms) = omega (arith, below, length-map tables.terms listing_in) in (
            subst (λ (listing : Listing). IsTerm listing.term) same (read.listings.terms k (listing_in d) inside),
            subst (λ (listing : Listing). Contains tables.stop listing.term → ⊥) same (read.listings.unstopped k (listing_in d) inside),
          )

  in_order : AreInOrder (parts_in texts tables)
  in_order = record {
    without_terms = lawful_without_terms tables.stop rows read.stop_set read.rows.names few.documents few.tokens;
    ascending = subst IsAscending (listed_terms tables.terms ∙ sym (terms_in texts.postings tables.terms)) read.listings.ascending;
    terms = lawful_terms;
  }

  lawful : AreLawful (parts_in texts tables)
  lawful =
      lawful_if_distinct (parts_in texts tables) in_order
      (entries_distinct rows entries read.lists (lists_are rows texts.postings tables.terms read.lists few read.listed.each) read.listed.distinct)

  pub tables_found : AreTablesOf texts tables
  tables_found = record {
    lawful = lawful;
    grams = subst (λ (terms : List (List ℕ)). AreGramsOfTerms terms (grams_in texts.grams tables.grams.items)) (sym (terms_in texts.postings tables.terms)) read.of_terms;
    names = read.names;
    lists = λ k d below. list_row rows texts.postings (get_or tables.terms k d) few (each k d below) (within k d below);
    longs = read.longs;
    few_places = read.few_places;
    gaps = read.gaps;
  }

  same_texts : (postings stop documents dictionary grams : List ℕ) → texts.postings ≡ postings → texts.stop ≡ stop → texts.documents ≡ documents → texts.dictionary ≡ dictionary → texts.grams ≡ grams → texts ≡ record { postings = postings; stop = stop; documents = documents; dictionary = dictionary; grams = grams }
  same_texts postings stop documents dictionary grams a b c d e =
      let with_a : List ℕ → FileSectionTexts = λ x. record { postings = x; stop = texts.stop; documents = texts.documents; dictionary = texts.dictionary; grams = texts.grams } in
      let with_b : List ℕ → FileSectionTexts = λ x. record { postings = postings; stop = x; documents = texts.documents; dictionary = texts.dictionary; grams = texts.grams } in
      let with_c : List ℕ → FileSectionTexts = λ x. record { postings = postings; stop = stop; documents = x; dictionary = texts.dictionary; grams = texts.grams } in
      let with_d : List ℕ → FileSectionTexts = λ x. record { postings = postings; stop = stop; documents = documents; dictionary = x; grams = texts.grams } in
      let with_e : List ℕ → FileSectionTexts = λ x. record { postings = postings; stop = stop; documents = documents; dictionary = dictionary; grams = x } in
      ap with_a a ∙ ap with_b b ∙ ap with_c c ∙ ap with_d d ∙ ap with_e e

  pub sections_found : AreSectionsOf version (parts_in texts tables) (grams_in texts.grams tables.grams.items) texts document_count term_count
  sections_found = record {
    spelled =
        same_texts _ _ _ _ _
        (sym (lists_whole texts.postings tables.terms read.laid_out read.sizes) ∙ postings_joined rows texts.postings tables.terms each)
        read.stop
        read.documents
        (read.dictionary ∙ ap (listings_section version) (sym listings) ∙ sym (dictionary_listings version entries))
        read.grams;
    document_count = sym read.rows_counted ∙ sym (length-map tables.rows.items (row_in texts.documents));
    term_count = sym read.terms_counted ∙ sym (length-map tables.terms (entry_in texts.postings));
  }
