-- Each collection has parts.
use Rattle.std.proofs.Common.{◌≡◌, ℕ, ◌+◌, ◌<◌, ◌⊎◌, ◌↔◌, List, [], ◌∷◌, map, flat_map, length, get_or, slice_get, Some, None, All, Contains, refl, sym, ap, ◌∙◌, subst, arith, inl, inr}
use Rattle.std.proofs.lemmas.Bool.{cases_Bool}
use Rattle.std.proofs.lemmas.List.Elements.{All-map, Contains-get_or}
use Rattle.std.proofs.lemmas.Option.{get_or_from_slice_get, none-some, slice_get-get_or, slice_get_within}
use Rattle.std.proofs.lemmas.Slice.Eq.{bytes_eq-Decides}
use Rattle.std.specs.List.Sorted.{IsStrictlyIncreasing}
use Rattle.std.specs.Prelude.{bytes_eq}
use Rattle.ix_text.specs.Collections.{Collection, Document, HasPosting, IsVocabulary}
use Rattle.ix_text.specs.Parts.{ArePartsOf, DictionaryEntry, HasPosition, IsEntryOf, IsTermPosting, Parts, Posting, row_of, terms_of}
use Rattle.ix_text.specs.TokenLists.{Entry}
use Rattle.ix_text.proofs.AscendingLists.{contained_from_map, contains_cases, contains_first, contains_map, contains_none}
use Rattle.ix_text.proofs.PartsLemmas.{injected}
use Rattle.ix_text.proofs.Passing.{HasPlaces, PassesAt, flat_all, flat_there, places}
use Rattle.ix_text.proofs.TextOrder.{in_order, order_all, order_ascends, order_inside}

-- parts of the collection
pub record HasParts (collection : Collection) : Type 0 where
  pub parts : Parts
  pub of_collection : ArePartsOf collection parts

-- ---- one term

entry_known : (term : List ℕ) (entry : Entry) → (entry ≡ Some term) ⊎ (entry ≡ Some term → ⊥)
entry_known term None = inr (none-some term)
entry_known term (Some other) =
    elim (cases_Bool (bytes_eq other term)) [
      | inl same ↦ inl (ap Some ((bytes_eq-Decides other term).0 same))
      | inr differs ↦ inr (λ is. cc ((bytes_eq-Decides other term).1 (injected is), differs))
    ]

some_or_none : (xs : List ℕ) → (0 < length xs) ⊎ (0 < length xs → ⊥)
some_or_none [] = inr (λ some. omega (arith, some))
some_or_none (x ∷ xs) = inl (omega arith)

zero_more : (n : ℕ) → 0 + n ≡ n
zero_more n = omega arith

abbrev no_document : Document
no_document = record { name = []; tokens = [] }

module _ (collection : Collection) (term : List ℕ) where
  positions : (document : Document) → HasPlaces (λ (entry : Entry). entry ≡ Some term) document.tokens 0
  positions document = places (λ (entry : Entry). entry ≡ Some term) (entry_known term) document.tokens 0

  abbrev HasTerm : Document → Type 0
  HasTerm document = 0 < length (positions document).numbers

  numbers : HasPlaces HasTerm collection.documents 0
  numbers = places HasTerm (λ document. some_or_none (positions document).numbers) collection.documents 0

  abbrev document_of : ℕ → Document
  document_of number = get_or collection.documents number no_document

  abbrev posting_of : ℕ → Posting
  posting_of number = (number, (positions (document_of number)).numbers)

  abbrev entry_of : DictionaryEntry
  entry_of = record { term = term; postings = map posting_of numbers.numbers }

  -- a number is that of a document that has the term
  has_term : (number : ℕ) → Contains numbers.numbers number → (number < length collection.documents) × HasTerm (document_of number)
  has_term number has =
      let (k, at) = numbers.inside number has in
      let same : k ≡ number = omega (arith, at.0) in
      let there : slice_get collection.documents number ≡ Some at.1.element = subst (λ n. slice_get collection.documents n ≡ Some at.1.element) same at.1.there in (
        slice_get_within collection.documents number at.1.element there,
        subst HasTerm (sym (get_or_from_slice_get collection.documents number at.1.element no_document there)) at.1.passes,
      )

  numbers_kept : (ns : List ℕ) → map (λ (posting : Posting). posting.0) (map posting_of ns) ≡ ns
  numbers_kept [] = refl
  numbers_kept (n ∷ ns) = ap (λ (ms : List ℕ). n ∷ ms) (numbers_kept ns)

  each : All IsTermPosting entry_of.postings
  each =
      All-map IsTermPosting posting_of numbers.numbers (λ k d below.
      let number = get_or numbers.numbers k d in
      ((has_term number (Contains-get_or numbers.numbers k d below)).1, (positions (document_of number)).rising))

  posted : (number position : ℕ) → HasPosition entry_of.postings number position ↔ HasPosting collection term number position
  posted number position = (
    λ has.
        let (n, among, is) = contained_from_map posting_of numbers.numbers (number, has.positions) has.among in
        let document = document_of n in
        let held : Contains (positions document).numbers position = subst (λ (ps : List ℕ). Contains ps position) (sym (ap (λ (p : Posting). p.1) is)) has.positioned in
        let (k, at) = (positions document).inside position held in
        let here : k ≡ position = omega (arith, at.0) in
        record {
          document = document;
          numbered = subst (λ m. slice_get collection.documents m ≡ Some document) (ap (λ (p : Posting). p.0) is) (slice_get-get_or collection.documents n no_document (has_term n among).0);
          entry = subst (λ m. slice_get document.tokens m ≡ Some (Some term)) here (at.1.there ∙ ap Some at.1.passes);
        },
    λ has.
        let own = positions has.document in
        let held : Contains own.numbers position = subst (Contains own.numbers) (zero_more position) (own.all position (record { element = Some term; there = has.entry; passes = refl })) in
        let listed : Contains numbers.numbers number =
        subst (Contains numbers.numbers) (zero_more number) (numbers.all number (record { element = has.document; there = has.numbered; passes = omega (arith, held.1) })) in
        record {
          positions = (positions (document_of number)).numbers;
          among = contains_map posting_of numbers.numbers number listed;
          positioned = subst (λ (d : Document). Contains (positions d).numbers position) (sym (get_or_from_slice_get collection.documents number has.document no_document has.numbered)) held;
        },
  )

  is_entry : (number position : ℕ) → HasPosting collection term number position → IsEntryOf collection entry_of
  is_entry number position has =
      let at = (posted number position).1 has in
      record {
        ordered = record {
          some = omega (arith, at.among.1);
          ascending = subst IsStrictlyIncreasing (sym (numbers_kept numbers.numbers)) numbers.rising;
          each = each;
        };
        posted = posted;
      }

-- ---- all terms

abbrev entry_terms : Entry → List (List ℕ)
entry_terms None = []
entry_terms (Some term) = term ∷ []

abbrev document_terms : Document → List (List ℕ)
document_terms document = flat_map entry_terms document.tokens

entry_is : (entry : Entry) (term : List ℕ) → Contains (entry_terms entry) term → entry ≡ Some term
entry_is None term has = absurd (contains_none term has)
entry_is (Some other) term has = elim (contains_cases other [] term has) [ inl same ↦ ap Some same | inr later ↦ absurd (contains_none term later) ]

terms_kept : (collection : Collection) (terms : List (List ℕ)) → terms_of (map (entry_of collection) terms) ≡ terms
terms_kept collection [] = refl
terms_kept collection (term ∷ terms) = ap (λ (ts : List (List ℕ)). term ∷ ts) (terms_kept collection terms)

module _ (collection : Collection) where
  abbrev terms : List (List ℕ)
  terms = flat_map document_terms collection.documents

  posting_there : (term : List ℕ) → Contains (in_order terms) term → (number : ℕ) × ((position : ℕ) × HasPosting collection term number position)
  posting_there term has =
      let (number, here) = flat_there document_terms collection.documents term (order_inside terms term has) in
      let (position, at) = flat_there entry_terms here.element.tokens term here.passes in
      (number, (position, record { document = here.element; numbered = here.there; entry = at.there ∙ ap Some (entry_is at.element term at.passes) }))

  complete : (term : List ℕ) (number position : ℕ) → HasPosting collection term number position → Contains (in_order terms) term
  complete term number position has =
      let here : PassesAt (λ (entry : Entry). Contains (entry_terms entry) term) has.document.tokens position = record { element = Some term; there = has.entry; passes = contains_first term [] } in
      let there : PassesAt (λ (document : Document). Contains (document_terms document) term) collection.documents number =
      record { element = has.document; there = has.numbered; passes = flat_all entry_terms has.document.tokens term position here } in
      order_all terms term (flat_all document_terms collection.documents term number there)

  pub has_parts : HasParts collection
  has_parts = record {
    parts = record { stop = collection.stop; rows = map row_of collection.documents; entries = map (entry_of collection) (in_order terms) };
    of_collection = record {
      stop = refl;
      rows = refl;
      vocabulary = subst (IsVocabulary collection) (sym (terms_kept collection (in_order terms))) (record { ascending = order_ascends terms; posted = posting_there; complete = complete });
      entries =
          All-map (IsEntryOf collection) (entry_of collection) (in_order terms) (λ k d below.
          let term = get_or (in_order terms) k d in
          let (number, (position, at)) = posting_there term (Contains-get_or (in_order terms) k d below) in
          is_entry collection term number position at);
    };
  }
