-- The index text of a collection without documents.
use Rattle.std.proofs.Common.{◌≡◌, ℕ, ◌+◌, List, [], ◌++◌, Option, Some, length, refl, sym, ap, ◌∙◌, subst, arith, length-append}
use Rattle.std.proofs.lemmas.List.{append-nil}
use Rattle.std.specs.List.Sorted.{IsStrictlySortedBy}
use Rattle.std.proofs.lemmas.Option.{slice_get_within}
use Rattle.ix_text.specs.Collections.{Collection, HasPosting, IsLawful}
use Rattle.ix_text.specs.Parts.{ArePartsOf, Parts}
use Rattle.ix_text.proofs.AscendingLists.{contains_none}
use Rattle.ix_index_text.specs.Grams.{AreGramsOfTerms}
use Rattle.ix_index_text.specs.IndexText.{IsIndexText, end_mark, layout, magic}
use Rattle.ix_index_text.specs.Sections.{Version, Plain, dictionary_section, documents_section, grams_section, postings_section, stop_section}
use Rattle.ix_index_text.proofs.GramLists.{of_collection}
use Rattle.ix_file.specs.Frames.{counts, framed}
use Rattle.ix_file.proofs.Framing.{layout_framed}
use Rattle.ix_extract.specs.Assembled.{stop_alone}
use Rattle.ix_extract.specs.Framed.{IsTrailerIn}
use Rattle.ix_extract.specs.Gathered.{stop_at}
use Rattle.ix_extract.specs.Projections.{HasIndexText, without_documents}
use Rattle.ix_extract.specs.Trailers.{sizes_bytes}
use Rattle.ix_extract.specs.declared.trailer.Sizes.{Sizes}
use Rattle.ix_extract.specs.declared.trailer.Trailer.{Trailer}
use Rattle.ix_extract.proofs.AssembleLemmas.{framed_behind}
use Rattle.ix_extract.proofs.Projecting.{known, stop_there}

-- STOP between a mark and a trailer
pub stop_framed : (stop o0 o1 o2 o3 : List ℕ) (size : ℕ) → o0 ≡ [] → o1 ≡ o0 ++ magic Plain → o2 ≡ o1 ++ stop → length o2 ≡ length o1 + size
    → (let sizes : Sizes = record { postings = 0; stop = size; documents = 0; dictionary = 0; grams = 0 } in o3 ≡ o2 ++ ((sizes_bytes sizes ++ counts 0 0) ++ end_mark Plain)) → o3 ≡ framed Plain (stop_alone stop) 0 0
stop_framed stop o0 o1 o2 o3 size none mark section sized trailer =
    let sizes : Sizes = record { postings = 0; stop = size; documents = 0; dictionary = 0; grams = 0 } in
    framed_behind (stop_alone stop) sizes 0 0 o2 o3
    (record { postings = refl; stop = omega (arith, sized, ap length section, length-append o1 stop); documents = refl; dictionary = refl; grams = refl })
    (section ∙ ap (λ xs. xs ++ stop) (mark ∙ ap (λ xs. xs ++ magic Plain) none) ∙ ap (λ xs. magic Plain ++ xs) (sym (append-nil stop))) trailer

-- ---- what it is of

module _ (collection : Collection) (lawful : IsLawful collection) where
  abbrev alone : Parts
  alone = record { stop = collection.stop; rows = []; entries = [] }

  no_posting : (term : List ℕ) (number position : ℕ) → ¬ (HasPosting (without_documents collection) term number position)
  no_posting term number position has = let within = slice_get_within [] number has.document has.numbered in omega arith

  parts_alone : ArePartsOf (without_documents collection) alone
  unfolding IsStrictlySortedBy
  parts_alone = record {
    stop = refl;
    rows = refl;
    vocabulary = record {
      ascending = tt;
      posted = λ term has. absurd (contains_none term has);
      complete = λ term number position has. absurd (no_posting term number position has);
    };
    entries = λ k d below. absurd (omega arith);
  }

  lawful_alone : IsLawful (without_documents collection)
  lawful_alone = record {
    names = λ k d below. absurd (omega arith);
    stop_terms = lawful.stop_terms;
    stop_ascending = lawful.stop_ascending;
    entries = λ k d below. absurd (omega arith);
    few_stop_terms = lawful.few_stop_terms;
    few_documents = omega arith;
    few_tokens = omega arith;
  }

  no_grams : AreGramsOfTerms [] []
  unfolding IsStrictlySortedBy
  no_grams = record {
    ascending = tt;
    each = λ k d below. absurd (omega arith);
    related = λ gram number. (λ has. absurd (contains_none _ has.among), λ is. absurd (let within = slice_get_within [] number is.term is.numbered in omega arith));
  }

  spelled_alone : framed Plain (stop_alone (stop_section collection.stop)) 0 0 ≡ layout Plain alone []
  unfolding postings_section documents_section dictionary_section grams_section
  spelled_alone = sym (layout_framed Plain alone [])

  pub index_text_alone : IsIndexText Plain (without_documents collection) (framed Plain (stop_alone (stop_section collection.stop)) 0 0)
  index_text_alone = record {
    lawful = lawful_alone;
    parts = alone;
    grams = [];
    of_collection = parts_alone;
    grams_of_collection = of_collection (without_documents collection) alone [] parts_alone no_grams;
    spelled = spelled_alone;
  }

-- what was put together of an index text
pub stop_is_text : (contents : Option (List ℕ)) (version : Version) (collection : Collection) (trailer : Trailer) (text : List ℕ) → HasIndexText contents version collection → IsTrailerIn contents trailer
    → ((whole : List ℕ) → contents ≡ Some whole → text ≡ framed Plain (stop_alone (stop_at whole trailer)) 0 0) → IsIndexText Plain (without_documents collection) text
stop_is_text contents version collection trailer text has is read =
    let stop = stop_there contents version collection trailer has is ∙ ap stop_section has.text.of_collection.stop in
    let spelled = read _ (known contents version collection trailer has is) ∙ ap (λ (s : List ℕ). framed Plain (stop_alone s) 0 0) stop in
    subst (IsIndexText Plain (without_documents collection)) (sym spelled) (index_text_alone collection has.text.lawful)
