-- What is put together of an index text is an index text of the collection with fewer terms.
use Rattle.std.proofs.Common.{◌≡◌, ℕ, ◌+◌, ◌≤◌, List, [], ◌∷◌, refl, inl, inr, Option, Some, length, take, drop, All, sym, ap, ap₂, ◌∙◌, subst, arith}
use Rattle.std.proofs.lemmas.List.{length-map}
use Rattle.std.proofs.lemmas.List.Elements.{All-cons, All-head, All-nil, All-tail}
use Rattle.ix_text.specs.Collections.{Collection}
use Rattle.ix_text.specs.Parts.{DictionaryEntry}
use Rattle.ix_index_text.specs.Grams.{AreGramsOfTerms}
use Rattle.ix_index_text.specs.IndexText.{IsIndexText}
use Rattle.ix_index_text.specs.Sections.{Version, Plain, dictionary_section, postings_section}
use Rattle.ix_index_text.proofs.SectionSizes.{AreSmall, few_entries, small_entries, small_parts}
use Rattle.ix_file.specs.Frames.{FileSectionTexts, framed}
use Rattle.ix_file.specs.Spelled.{AreSectionsOf, sections_of}
use Rattle.ix_file.proofs.Framing.{layout_framed, sections_framed}
use Rattle.ix_lookup.specs.Dictionaries.{AreFoundAt, IsNoDictionary}
use Rattle.ix_lookup.specs.FoundEntries.{AreFoundEntries}
use Rattle.ix_lookup.specs.FoundTerms.{AreFoundIn}
use Rattle.ix_lookup.specs.Listed.{IsOfNone as IsOfNoListings}
use Rattle.ix_lookup.specs.Versions.{version_in}
use Rattle.ix_lookup.specs.declared.dictionary.Dictionary.{Dictionary}
use Rattle.ix_lookup.specs.declared.found_term.FoundTerm.{FoundTerm}
use Rattle.ix_lookup.proofs.EntryLemmas.{finds_entries, of_entries}
use Rattle.ix_projection.specs.Kept.{kept_collection, kept_entries, kept_parts}
use Rattle.ix_projection.proofs.KeptParts.{index_text_kept}
use Rattle.ix_extract.specs.Assembled.{IsAssembled, texts_of}
use Rattle.ix_extract.specs.Framed.{HasNoFrame, IsFramed, IsTrailerIn}
use Rattle.ix_extract.specs.Gathered.{list_at, stop_at}
use Rattle.ix_extract.specs.Projections.{HasIndexText, IsOfNone, IsProjection}
use Rattle.ix_extract.specs.Trailers.{IsTrailerOf}
use Rattle.ix_extract.specs.declared.trailer.Trailer.{Trailer}
use Rattle.ix_extract.proofs.ChosenLemmas.{IsWithin, among, are_chosen, keeps_wanted, wanted_found, among_found, text_of}
use Rattle.ix_extract.proofs.FrameLemmas.{AreRanges, lists_in, ranges}

-- the frame of an index text
pub framed_text : (contents : Option (List ℕ)) (version : Version) (collection : Collection) (has : HasIndexText contents version collection)
    → IsFramed contents version (sections_of version has.text.parts has.text.grams) (length has.text.parts.rows) (length has.text.parts.entries)
framed_text contents version collection has =
    let parts = has.text.parts in
    let small : AreSmall parts = small_parts collection parts has.text.lawful has.text.of_collection in
    record {
      known = has.known ∙ ap (λ (bytes : List ℕ). Some bytes) (has.text.spelled ∙ layout_framed version parts has.text.grams);
      few_documents = omega (arith, small.lawful.few_documents);
      few_terms = omega (arith, few_entries parts small);
    }

-- a source without a frame has no index text
pub no_text : (contents : Option (List ℕ)) → HasNoFrame contents → IsOfNone contents
no_text contents none version collection has = none version _ _ _ (framed_text contents version collection has)

-- where the trailer says that DICTIONARY is
abbrev pub dictionary_of : Trailer → Dictionary
dictionary_of trailer = record {
  version = trailer.version;
  start = 8 + trailer.postings + trailer.stop + trailer.documents;
  size = trailer.dictionary;
  terms = trailer.terms;
  postings = trailer.postings;
}

module _ (contents : Option (List ℕ)) (version : Version) (collection : Collection) (trailer : Trailer) (has : HasIndexText contents version collection) (is : IsTrailerIn contents trailer) where
  -- the sections, and their frame
  abbrev texts : FileSectionTexts
  texts = sections_of version has.text.parts has.text.grams

  abbrev pub bytes : List ℕ
  bytes = framed version texts (length has.text.parts.rows) (length has.text.parts.entries)

  pub known : contents ≡ Some bytes
  known = (framed_text contents version collection has).known

  parts_at : AreRanges bytes version texts (length has.text.parts.rows) (length has.text.parts.entries)
  parts_at = ranges version texts (length has.text.parts.rows) (length has.text.parts.entries)

  of_trailer : IsTrailerOf version texts (length has.text.parts.rows) (length has.text.parts.entries) trailer
  of_trailer = is version texts _ _ (framed_text contents version collection has)

  -- STOP, DOCS and DICTIONARY are where the trailer says
  pub stop_there : stop_at bytes trailer ≡ texts.stop
  stop_there = ap₂ (λ (k : ℕ) (i : ℕ). take k (drop (8 + i) bytes)) of_trailer.stop_size of_trailer.postings_size ∙ parts_at.stop_range

  documents_there : list_at bytes (8 + trailer.postings + trailer.stop) trailer.documents ≡ texts.documents
  documents_there =
      ap₂ (λ (k : ℕ) (i : ℕ). take k (drop i bytes)) of_trailer.documents_size (ap₂ (λ (i : ℕ) (j : ℕ). 8 + i + j) of_trailer.postings_size of_trailer.stop_size) ∙ parts_at.documents_range

  dictionary_there : take trailer.dictionary (drop (8 + trailer.postings + trailer.stop + trailer.documents) bytes) ≡ texts.dictionary
  dictionary_there =
      ap₂ (λ (k : ℕ) (i : ℕ). take k (drop i bytes)) of_trailer.dictionary_size (ap₂ (λ (i : ℕ) (j : ℕ). i + j) (ap₂ (λ (i : ℕ) (j : ℕ). 8 + i + j) of_trailer.postings_size of_trailer.stop_size) of_trailer.documents_size)
      ∙ parts_at.dictionary_range

  -- what holds of the dictionary that is there holds of that of the entries
  of_dictionary : (P : Version → List ℕ → ℕ → ℕ → Type 0) → P (version_in trailer.version) (take trailer.dictionary (drop (8 + trailer.postings + trailer.stop + trailer.documents) bytes)) trailer.terms trailer.postings
      → P version (dictionary_section version has.text.parts.entries) (length has.text.parts.entries) (length (postings_section has.text.parts.entries))
  of_dictionary P p =
      let entries = has.text.parts.entries in
      let section = take trailer.dictionary (drop (8 + trailer.postings + trailer.stop + trailer.documents) bytes) in
      subst (λ v. P v (dictionary_section version entries) (length entries) (length (postings_section entries))) of_trailer.of_version
      (subst (λ s. P (version_in trailer.version) s (length entries) (length (postings_section entries))) dictionary_there
      (subst (λ n. P (version_in trailer.version) section n (length (postings_section entries))) of_trailer.term_count
      (subst (λ n. P (version_in trailer.version) section trailer.terms n) of_trailer.postings_size p)))

  -- bytes that are no dictionary are not there
  some_dictionary : IsNoDictionary (dictionary_of trailer) bytes → ⊥
  some_dictionary none = of_dictionary IsOfNoListings none _ (of_entries version collection has.text.parts has.text.lawful has.text.of_collection)

  -- the terms that were found are entries
  entries_found : (wants : List ℕ → Type 0) (found : List FoundTerm) → AreFoundAt (dictionary_of trailer) bytes wants found → AreFoundEntries wants (postings_section has.text.parts.entries) has.text.parts.entries found
  entries_found wants found are =
      finds_entries wants version collection has.text.parts found has.text.lawful has.text.of_collection
      (of_dictionary (λ v s n m. AreFoundIn v s n m wants found) are)

-- they are as short as terms are
short_entries : (wants : List ℕ → Type 0) (postings : List ℕ) (entries : List DictionaryEntry) (found : List FoundTerm) → All (λ entry. length entry.term ≤ 255) entries → AreFoundEntries wants postings entries found → All (λ one. length (text_of one) ≤ 255) found
short_entries wants postings [] found small are = subst (All (λ one. length (text_of one) ≤ 255)) (sym are) (λ k d h. absurd (omega arith))
short_entries wants postings (entry ∷ entries) found small (inl add) =
    let P = λ (e : DictionaryEntry). length e.term ≤ 255 in
    let Q = λ (one : FoundTerm). length (text_of one) ≤ 255 in
    let (one, others, is, same, rest) = add.1 in
    subst (All Q) (sym is)
    (All-cons Q one others (subst (λ (t : List ℕ). length t ≤ 255) (sym same.term) (All-head P entry entries small)) (short_entries wants postings entries others (All-tail P entry entries small) rest))
short_entries wants postings (entry ∷ entries) found small (inr none) =
    short_entries wants postings entries found (All-tail (λ (e : DictionaryEntry). length e.term ≤ 255) entry entries small) none.1

-- what was found, if the bytes are known
abbrev pub AreFoundThere : Option (List ℕ) → Trailer → (List ℕ → Type 0) → List FoundTerm → Type 0
AreFoundThere contents trailer wants found = (bytes : List ℕ) → contents ≡ Some bytes → AreFoundAt (dictionary_of trailer) bytes wants found

-- bytes that are no dictionary were read of no index text
pub no_dictionary : (contents : Option (List ℕ)) (trailer : Trailer) → IsTrailerIn contents trailer → ((bytes : List ℕ) → contents ≡ Some bytes → IsNoDictionary (dictionary_of trailer) bytes) → IsOfNone contents
no_dictionary contents trailer is none version collection has =
    some_dictionary contents version collection trailer has is (none _ (known contents version collection trailer has is))

-- a term that is too long was found in no index text
pub too_long : (contents : Option (List ℕ)) (trailer : Trailer) (wants : List ℕ → Type 0) (found : List FoundTerm) → IsTrailerIn contents trailer → AreFoundThere contents trailer wants found → ¬ (All (λ one. length (text_of one) ≤ 255) found)
    → IsOfNone contents
too_long contents trailer wants found is are long version collection has =
    let parts = has.text.parts in
    let small = small_entries parts (small_parts collection parts has.text.lawful has.text.of_collection) in
    long
    (short_entries wants (postings_section parts.entries) parts.entries found (λ k d h. (small k d h).term)
    (entries_found contents version collection trailer has is wants found (are _ (known contents version collection trailer has is))))

-- ---- what is put together

same_sections : (a b c d g x y z w v : List ℕ) → a ≡ x → b ≡ y → c ≡ z → d ≡ w → g ≡ v
    → (let one : FileSectionTexts = record { postings = a; stop = b; documents = c; dictionary = d; grams = g } in one)
    ≡ (let other : FileSectionTexts = record { postings = x; stop = y; documents = z; dictionary = w; grams = v } in other)
same_sections a b c d g x y z w v p q r s t = cc

pub projected_entries : (contents : Option (List ℕ)) (version : Version) (collection : Collection) (trailer : Trailer) (wants : List ℕ → Type 0) (found : List FoundTerm) (text : List ℕ) (has : HasIndexText contents version collection) → IsTrailerIn contents trailer
    → AreFoundEntries wants (postings_section has.text.parts.entries) has.text.parts.entries found → All (λ one. one.start + one.size ≤ trailer.postings) found
    → ((bytes : List ℕ) → contents ≡ Some bytes → IsAssembled bytes trailer found text) → IsProjection collection wants text
unfolding kept_parts
projected_entries contents version collection trailer wants found text has is entries within read =
    let parts = has.text.parts in
    let of = is version _ _ _ (framed_text contents version collection has) in
    let there = known contents version collection trailer has is in
    let assembled = read _ there in
    let lists = postings_section parts.entries in
    let inside = subst (λ n. All (IsWithin n) found) of.postings_size within in
    let keeps = among found in
    let chosen = are_chosen keeps wants lists parts.entries found (keeps_wanted wants lists parts.entries found entries) inside entries in
    let whole = bytes contents version collection trailer has is in
    let are_sections : AreSectionsOf Plain (kept_parts keeps parts) assembled.grams (texts_of whole trailer found assembled.grams) trailer.rows (length found) = record {
      spelled = same_sections _ _ _ _ _ _ _ _ _ _ (lists_in version (sections_of version parts has.text.grams) (length parts.rows) (length parts.entries) found inside ∙ chosen.lists)
          (stop_there contents version collection trailer has is) (documents_there contents version collection trailer has is) chosen.dictionary refl;
      document_count = of.document_count;
      term_count = sym (length-map found text_of) ∙ ap length chosen.texts ∙ length-map (kept_entries keeps parts.entries) (λ (e : DictionaryEntry). e.term);
    } in
    let kept = index_text_kept keeps Plain collection parts assembled.grams has.text.lawful has.text.of_collection (subst (λ (ts : List (List ℕ)). AreGramsOfTerms ts assembled.grams) chosen.texts assembled.of_terms) in
    record {
      keeps = keeps;
      text = subst (IsIndexText Plain (kept_collection keeps collection)) (sym (assembled.spelled ∙ sections_framed Plain (kept_parts keeps parts) assembled.grams (texts_of whole trailer found assembled.grams) trailer.rows (length found) are_sections)) kept;
      wanted = λ term number position posting wanted.
          (among_found found term).1 (wanted_found wants lists parts.entries found term entries (has.text.of_collection.vocabulary.complete term number position posting) wanted);
    }

pub projected : (contents : Option (List ℕ)) (version : Version) (collection : Collection) (trailer : Trailer) (wants : List ℕ → Type 0) (found : List FoundTerm) (text : List ℕ) → HasIndexText contents version collection → IsTrailerIn contents trailer
    → AreFoundThere contents trailer wants found → All (λ one. one.start + one.size ≤ trailer.postings) found
    → ((bytes : List ℕ) → contents ≡ Some bytes → IsAssembled bytes trailer found text) → IsProjection collection wants text
projected contents version collection trailer wants found text has is are within read =
    projected_entries contents version collection trailer wants found text has is
    (entries_found contents version collection trailer has is wants found (are _ (known contents version collection trailer has is))) within read

-- if no term is wanted, none has to be found
none_found : (postings : List ℕ) (entries : List DictionaryEntry) → AreFoundEntries (λ term. ⊥) postings entries []
none_found postings [] = refl
none_found postings (entry ∷ entries) = inr (λ wanted. wanted, none_found postings entries)

pub projected_none : (contents : Option (List ℕ)) (version : Version) (collection : Collection) (trailer : Trailer) (text : List ℕ) → HasIndexText contents version collection → IsTrailerIn contents trailer
    → ((bytes : List ℕ) → contents ≡ Some bytes → IsAssembled bytes trailer [] text) → IsProjection collection (λ term. ⊥) text
projected_none contents version collection trailer text has is read =
    projected_entries contents version collection trailer (λ term. ⊥) [] text has is (none_found _ has.text.parts.entries) (All-nil (λ one. one.start + one.size ≤ trailer.postings)) read

-- a projection for more terms is one for fewer
pub wants_fewer : (collection : Collection) (wants asked : List ℕ → Type 0) (text : List ℕ) → ((term : List ℕ) → asked term → wants term) → IsProjection collection wants text → IsProjection collection asked text
wants_fewer collection wants asked text within is =
    record { keeps = is.keeps; text = is.text; wanted = λ term number position posting asks. is.wanted term number position posting (within term asks) }
