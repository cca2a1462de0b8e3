-- Where lawful parts spell the sections, no reading of a section has a reason to refuse it.
use Rattle.std.proofs.Common.{◌≡◌, ℕ, ◌+◌, ◌≤◌, List, [], ◌∷◌, ◌++◌, map, flat_map, length, drop, get_or, slice_range, All, Contains, refl, sym, ap, ◌∙◌, subst, arith}
use Rattle.std.proofs.lemmas.List.{length-map}
use Rattle.std.proofs.lemmas.List.Concat.{length-flat_map}
use Rattle.std.proofs.lemmas.List.Elements.{All-head, All-map, All-tail, All-weaker, Contains-get_or}
use Rattle.std.proofs.lemmas.List.Folds.{drop_split, flat_map-map}
use Rattle.std.proofs.lemmas.List.Sums.{sum_by-cons}
use Rattle.ix_text.specs.ByteOrder.{IsAscending}
use Rattle.ix_text.specs.Parts.{AreTermPostings, DictionaryEntry, DocumentRow, GramEntry, Parts, Posting, terms_of}
use Rattle.ix_text.specs.PartsLaws.{AreLawful, IsLawfulTerm}
use Rattle.ix_text.specs.StopSets.{IsStopSet}
use Rattle.ix_text.specs.Terms.{IsTerm}
use Rattle.ix_text.specs.TokenLaws.{IsPostingIn}
use Rattle.ix_text.specs.TokenNumbers.{AreDistinct, numbers_of_postings}
use Rattle.ix_text.proofs.CollectionTold.{has_collection}
use Rattle.ix_text.proofs.PartsLawful.{sum_by-map}
use Rattle.ix_text.proofs.TokensApart.{lawful_distinct}
use Rattle.ix_vbyte.specs.Postings.{list_bytes}
use Rattle.ix_vbyte.proofs.Pieces.{fronts_apart}
use Rattle.ix_file.specs.Frames.{FileSectionTexts}
use Rattle.ix_index_text.specs.Grams.{AreGramsOfTerms}
use Rattle.ix_index_text.specs.Listings.{Listing, listing_of, listings_section}
use Rattle.ix_file.specs.ReadListings.{AreLaidOut, AreListings, HasListedCounts, listing_in, listings_in, sizes_sum}
use Rattle.ix_file.specs.Opened.{lists_of}
use Rattle.ix_file.specs.OpenedRows.{AreRows}
use Rattle.ix_file.specs.ReadLists.{AreListsIn, list_in}
use Rattle.ix_index_text.specs.Sections.{Version, documents_section, grams_section, postings_section, stop_section}
use Rattle.ix_file.specs.Spelled.{AreSectionsOf}
use Rattle.ix_file.specs.Tables.{term_in}
use Rattle.ix_file.specs.PlacedTerms.{PlacedTerm}
use Rattle.ix_index_text.proofs.IndexTold.{rows_told, stop_told}
use Rattle.ix_index_text.proofs.ListingsTold.{dictionary_listings, listings_told}
use Rattle.ix_file.proofs.ListsFound.{AreListed, LieFrom, laid_out, length-list_in}
use Rattle.ix_index_text.proofs.SectionSizes.{IsSmallEntry, small_entries, small_parts}
use Rattle.ix_file.proofs.TablesFound.{listed_terms}

-- ---- lists

-- the postings of an entry lie in the documents
pub record LieIn (rows : List DocumentRow) (entry : DictionaryEntry) : Type 0 where
  pub are : AreTermPostings entry.postings
  pub each : All (IsPostingIn rows) entry.postings

lie_in : (parts : Parts) (entry : DictionaryEntry) → IsLawfulTerm parts entry → LieIn parts.rows entry
lie_in parts entry is = record {
  are = is.ordered;
  each = λ k d below.
      let posting = get_or entry.postings k d in
      let among : Contains entry.postings posting = Contains-get_or entry.postings k d below in
      record {
        is = is.ordered.each k d below;
        in_range = λ position has. is.in_range posting.0 position (record { positions = posting.1; among = among; positioned = has });
      };
}

-- rows that lie one behind another stand for the lists of the entries that spell the section from there on
listed_from : (documents : List DocumentRow) (section : List ℕ) (from : ℕ) (rows : List PlacedTerm) (entries : List DictionaryEntry) → LieFrom from rows → from + sizes_sum (listings_in rows) ≤ length section
    → map listing_of entries ≡ listings_in rows → drop from section ≡ flat_map (λ entry. list_bytes entry.postings) entries → All (LieIn documents) entries → AreListed documents section rows (lists_of entries)
listed_from documents section from [] [] lie within same spelled all = tt
listed_from documents section from [] (entry ∷ entries) lie within same spelled all = cc
listed_from documents section from (row ∷ rows) [] lie within same spelled all = cc
listed_from documents section from (row ∷ rows) (entry ∷ entries) lie within same spelled all =
    let sum : sizes_sum (listings_in (row ∷ rows)) ≡ row.size + sizes_sum (listings_in rows) = sum_by-cons (λ (listing : Listing). listing.size) (listing_in row) (listings_in rows) in
    let first : listing_of entry ≡ listing_in row = cc in
    let others : map listing_of entries ≡ listings_in rows = cc in
    let size = ap (λ (listing : Listing). listing.size) first in
    let behind = flat_map (λ (e : DictionaryEntry). list_bytes e.postings) entries in
    let here : list_in section row ≡ slice_range section from (from + row.size) = ap (λ n. slice_range section n (n + row.size)) lie.0 in
    let inside : row.start + row.size ≤ length section = omega (arith, within, sum, lie.0) in
    let cut = fronts_apart (list_in section row) (list_bytes entry.postings) (drop (from + row.size) section) behind (length-list_in section row inside ∙ sym size)
    (ap (λ bytes. bytes ++ drop (from + row.size) section) here ∙ sym (drop_split section from (from + row.size) (omega arith)) ∙ spelled) in
    let is = All-head (LieIn documents) entry entries all in (
      record { counted = ap (λ (listing : Listing). listing.documents) first; are = is.are; each = is.each; coded = cut.0 },
      listed_from documents section (from + row.size) rows entries lie.1 (omega (arith, within, sum)) others cut.1 (All-tail (LieIn documents) entry entries all),
    )

-- ---- the dictionary

listing_terms : (entries : List DictionaryEntry) → map (λ listing. listing.term) (map listing_of entries) ≡ terms_of entries
listing_terms [] = refl
listing_terms (entry ∷ entries) = ap (λ terms. entry.term ∷ terms) (listing_terms entries)

lawful_listings : (parts : Parts) → AreLawful parts → AreListings parts.stop (map listing_of parts.entries)
lawful_listings parts lawful = record {
  terms = All-map (λ (listing : Listing). IsTerm listing.term) listing_of parts.entries (λ k d below. (lawful.terms k d below).term);
  ascending = subst IsAscending (sym (listing_terms parts.entries)) lawful.ascending;
  unstopped = All-map (λ (listing : Listing). Contains parts.stop listing.term → ⊥) listing_of parts.entries (λ k d below. (lawful.terms k d below).no_stop);
  counts = All-map HasListedCounts listing_of parts.entries (λ k d below. record { some = (lawful.terms k d below).ordered.some; documents = (small k d below).documents; size = (small k d below).size });
}
  where
    small : All IsSmallEntry parts.entries
    small = let has = has_collection parts lawful in small_entries parts (small_parts has.collection parts has.lawful has.of_collection)

sizes_of : (entries : List DictionaryEntry) → sizes_sum (map listing_of entries) ≡ length (postings_section entries)
unfolding postings_section
sizes_of entries =
    sum_by-map (λ (listing : Listing). listing.size) listing_of entries ∙ sym (length-flat_map (λ (entry : DictionaryEntry). list_bytes entry.postings) entries)

-- ---- each section

module _ (version : Version) (texts : FileSectionTexts) (document_count term_count : ℕ) (parts : Parts) (grams : List GramEntry) (lawful : AreLawful parts) (of_terms : AreGramsOfTerms (terms_of parts.entries) grams) (is : AreSectionsOf version parts grams texts document_count term_count) where
  pub no_stop : ((stop : List (List ℕ)) → IsStopSet stop → texts.stop ≡ stop_section stop → ⊥) → ⊥
  no_stop refused =
      refused parts.stop (record { few = lawful.few_stop_terms; ascending = lawful.stop_ascending; terms = lawful.stop_terms }) (ap (λ (t : FileSectionTexts). t.stop) is.spelled)

  pub no_rows : ((rows : List DocumentRow) → AreRows rows → length rows ≡ document_count → texts.documents ≡ documents_section rows → ⊥) → ⊥
  no_rows refused = refused parts.rows (record { names = lawful.names; few_tokens = lawful.few_tokens }) (sym is.document_count) (ap (λ (t : FileSectionTexts). t.documents) is.spelled)

  pub no_listings : (stop : List (List ℕ)) → texts.stop ≡ stop_section stop
      → ((listings : List Listing) → AreListings stop listings → length listings ≡ term_count → sizes_sum listings ≡ length texts.postings → texts.dictionary ≡ listings_section version listings → ⊥) → ⊥
  no_listings stop spelled refused =
      let same : parts.stop ≡ stop = stop_told parts.stop stop (sym (ap (λ (t : FileSectionTexts). t.stop) is.spelled) ∙ spelled) in
      refused (map listing_of parts.entries) (subst (λ (s : List (List ℕ)). AreListings s (map listing_of parts.entries)) same (lawful_listings parts lawful))
      (length-map parts.entries listing_of ∙ sym is.term_count)
      (sizes_of parts.entries ∙ sym (ap (λ (t : FileSectionTexts). length t.postings) is.spelled))
      (ap (λ (t : FileSectionTexts). t.dictionary) is.spelled ∙ dictionary_listings version parts.entries)

  postings : texts.postings ≡ flat_map (λ entry. list_bytes entry.postings) parts.entries
  unfolding postings_section
  postings = ap (λ (t : FileSectionTexts). t.postings) is.spelled

  same_listings : (rows : List PlacedTerm) → texts.dictionary ≡ listings_section version (listings_in rows) → map listing_of parts.entries ≡ listings_in rows
  same_listings rows spelled =
      listings_told version (map listing_of parts.entries) (listings_in rows) (sym (dictionary_listings version parts.entries) ∙ sym (ap (λ (t : FileSectionTexts). t.dictionary) is.spelled) ∙ spelled)

  pub no_lists : (documents : List DocumentRow) (rows : List PlacedTerm) → texts.documents ≡ documents_section documents → texts.dictionary ≡ listings_section version (listings_in rows) → AreLaidOut rows → sizes_sum (listings_in rows) ≡ length texts.postings
      → ((lists : List (List Posting)) → AreListsIn documents texts.postings rows lists → ⊥) → ⊥
  no_lists documents rows spelled dictionary laid sum refused =
      let same : parts.rows ≡ documents = rows_told parts.rows documents (sym (ap (λ (t : FileSectionTexts). t.documents) is.spelled) ∙ spelled) in
      let lists = lists_of parts.entries in
      refused lists (subst (λ (ds : List DocumentRow). AreListsIn ds texts.postings rows lists) same (record {
        each = listed_from parts.rows texts.postings 0 rows parts.entries (laid_out rows laid) (omega (arith, sum)) (same_listings rows dictionary) postings (All-weaker (IsLawfulTerm parts) (LieIn parts.rows) (lie_in parts) parts.entries lawful.terms);
        distinct = subst AreDistinct (sym (flat_map-map (numbers_of_postings parts.rows) (λ (entry : DictionaryEntry). entry.postings) parts.entries)) (lawful_distinct parts lawful);
      }))

  pub no_grams : (rows : List PlacedTerm) → texts.dictionary ≡ listings_section version (listings_in rows) → ((more : List GramEntry) → AreGramsOfTerms (map term_in rows) more → texts.grams ≡ grams_section more → ⊥) → ⊥
  no_grams rows spelled refused =
      let terms : terms_of parts.entries ≡ map term_in rows =
      sym (listing_terms parts.entries) ∙ ap (map (λ (listing : Listing). listing.term)) (same_listings rows spelled) ∙ listed_terms rows in
      refused grams (subst (λ (ts : List (List ℕ)). AreGramsOfTerms ts grams) terms of_terms) (ap (λ (t : FileSectionTexts). t.grams) is.spelled)
