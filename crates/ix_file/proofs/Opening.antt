-- An opened index is that of the collection of its text, and of no other.
use Rattle.std.proofs.Common.{◌≡◌, ℕ, ◌^◌, ◌<◌, ◌≤◌, List, length, slice_get, Some, ap, refl, sym, ◌∙◌, subst, arith}
use Rattle.ix_text.specs.Collections.{Collection}
use Rattle.ix_text.specs.Parts.{ArePartsOf, AreGramsOf, GramEntry, Parts, terms_of}
use Rattle.ix_text.specs.PartsLaws.{AreLawful}
use Rattle.ix_text.proofs.CollectionTold.{has_collection}
use Rattle.ix_text.proofs.PartsLawful.{lawful_parts}
use Rattle.ix_file.specs.Frames.{FileSectionTexts, framed}
use Rattle.ix_index_text.specs.Grams.{AreGramsOfTerms}
use Rattle.ix_index_text.specs.IndexText.{IsIndexText}
use Rattle.ix_file.specs.Opened.{IsIndexOf, Opened}
use Rattle.ix_index_text.specs.Sections.{Version}
use Rattle.ix_file.specs.Spelled.{AreSectionsOf, sections_of}
use Rattle.ix_file.proofs.Framing.{layout_framed, one_frame, sections_framed}
use Rattle.ix_index_text.proofs.GramLists.{of_collection}
use Rattle.ix_text.proofs.OneParts.{one_vocabulary}
use Rattle.ix_index_text.proofs.IndexTold.{index_told}
use Rattle.ix_index_text.proofs.SectionSizes.{few_entries, small_parts}

-- the bytes are an index text of a collection of which the index is
pub record IsOpenedFrom (opened : Opened) (bytes : List ℕ) : Type 0 where
  pub collection : Collection
  pub is : IsIndexOf opened opened.version collection
  pub text : IsIndexText opened.version collection bytes

pub opened_from : (bytes : List ℕ) (opened : Opened) (texts : FileSectionTexts) (documents terms : ℕ) → bytes ≡ framed opened.version texts documents terms → AreLawful opened.parts → AreGramsOfTerms (terms_of opened.parts.entries) opened.grams
    → AreSectionsOf opened.version opened.parts opened.grams texts documents terms → IsOpenedFrom opened bytes
opened_from bytes opened texts documents terms e lawful of_terms spelled =
    let has = has_collection opened.parts lawful in
    let grams = of_collection has.collection opened.parts opened.grams has.of_collection of_terms in
    record {
      collection = has.collection;
      is = record { in_version = refl; lawful = has.lawful; parts = has.of_collection; grams = grams };
      text = record {
        lawful = has.lawful;
        parts = opened.parts;
        grams = opened.grams;
        of_collection = has.of_collection;
        grams_of_collection = grams;
        spelled = e ∙ sections_framed opened.version opened.parts opened.grams texts documents terms spelled;
      };
    }

-- and of no other
pub is_index_of : (bytes : List ℕ) (opened : Opened) → IsOpenedFrom opened bytes → (version : Version) (collection : Collection) → IsIndexText version collection bytes → IsIndexOf opened version collection
is_index_of bytes opened from version collection text =
    let same = index_told opened.version version from.collection collection bytes from.text text in
    subst (λ (c : Collection). IsIndexOf opened version c) same.1 (subst (λ (v : Version). IsIndexOf opened v from.collection) same.0 from.is)

-- the grams of a collection are those of the terms of its dictionary
of_terms : (collection : Collection) (parts : Parts) (grams : List GramEntry) → ArePartsOf collection parts → AreGramsOf collection grams → AreGramsOfTerms (terms_of parts.entries) grams
of_terms collection parts grams are of = record {
  ascending = of.ascending;
  each = of.each;
  related = λ g n. (
    λ has.
        let gram = (of.related g n).0 has in
        let same = one_vocabulary collection gram.terms (terms_of parts.entries) gram.vocabulary are.vocabulary in
        record { term = gram.term; numbered = subst (λ (terms : List (List ℕ)). slice_get terms n ≡ Some gram.term) same gram.numbered; windowed = gram.windowed },
    λ is. (of.related g n).1 (record { terms = terms_of parts.entries; vocabulary = are.vocabulary; term = is.term; numbered = is.numbered; windowed = is.windowed }),
  );
}

-- what an index text is, cut into its frame
pub record IsFramedText (version : Version) (bytes : List ℕ) : Type 0 where
  pub parts : Parts
  pub grams : List GramEntry
  pub lawful : AreLawful parts
  pub of_terms : AreGramsOfTerms (terms_of parts.entries) grams
  pub few_documents : length parts.rows ≤ 2 ^ 28
  pub few_terms : length parts.entries < 2 ^ 32
  pub framed : bytes ≡ framed version (sections_of version parts grams) (length parts.rows) (length parts.entries)

pub framed_text : (version : Version) (collection : Collection) (bytes : List ℕ) → IsIndexText version collection bytes → IsFramedText version bytes
framed_text version collection bytes text =
    let lawful : AreLawful text.parts = lawful_parts collection text.parts text.lawful text.of_collection in
    record {
      parts = text.parts;
      grams = text.grams;
      lawful = lawful;
      of_terms = of_terms collection text.parts text.grams text.of_collection text.grams_of_collection;
      few_documents = lawful.few_documents;
      few_terms = omega (arith, few_entries text.parts (small_parts collection text.parts text.lawful text.of_collection));
      framed = text.spelled ∙ layout_framed version text.parts text.grams;
    }

-- an index text is cut
pub never_uncut : (bytes : List ℕ) → ((version : Version) (texts : FileSectionTexts) (documents terms : ℕ) → documents ≤ 2 ^ 28 → terms < 2 ^ 32 → bytes ≡ framed version texts documents terms → ⊥)
    → (version : Version) (collection : Collection) → IsIndexText version collection bytes → ⊥
never_uncut bytes refused version collection text =
    let is = framed_text version collection bytes text in
    refused version (sections_of version is.parts is.grams) (length is.parts.rows) (length is.parts.entries) is.few_documents is.few_terms is.framed

-- and what it was cut into is read
pub never_refused : (bytes : List ℕ) (version : Version) (texts : FileSectionTexts) (documents terms : ℕ) → length bytes < 2 ^ 64 → documents ≤ 2 ^ 28 → terms < 2 ^ 32 → bytes ≡ framed version texts documents terms
    → ((parts : Parts) (grams : List GramEntry) → AreLawful parts → AreGramsOfTerms (terms_of parts.entries) grams → AreSectionsOf version parts grams texts documents terms → ⊥)
    → (another : Version) (collection : Collection) → IsIndexText another collection bytes → ⊥
never_refused bytes version texts documents terms short few_documents few_terms e refused another collection text =
    let is = framed_text another collection bytes text in
    let same = one_frame bytes version another texts (sections_of another is.parts is.grams) documents terms (length is.parts.rows) (length is.parts.entries) short (omega (arith, few_documents)) few_terms (omega (arith, is.few_documents)) is.few_terms e is.framed in
    refused is.parts is.grams is.lawful is.of_terms
    (record {
      spelled = same.same_texts ∙ ap (λ (v : Version). sections_of v is.parts is.grams) (sym same.same_version);
      document_count = same.same_documents;
      term_count = same.same_terms;
    })
