-- The terms of inverted documents are the dictionary of their collection.
use Rattle.std.proofs.Common.{◌≡◌, ◌≢◌, ℕ, ◌+◌, ◌<◌, ◌↔◌, List, [], ◌∷◌, length, map, All, Contains, slice_get, refl, sym, ap, ap₂, subst, ◌∙◌, arith}
use Rattle.std.proofs.lemmas.List.Elements.{All-head, All-tail, All-map, All-weaker, All-contains}
use Rattle.ix_text.specs.Collections.{Collection, HasPosting, IsVocabulary}
use Rattle.ix_text.specs.Parts.{Parts, Posting, DictionaryEntry, ArePartsOf, AreTermPostings, HasPosition, IsEntryOf, row_of, terms_of}
use Rattle.ix_text.proofs.CollectionTold.{some_position}
use Rattle.ix_run.specs.CodedTerms.{AreTermsOf, IsCoded, texts_of}
use Rattle.ix_run.specs.Inverted.{Occurrence, occurrences_of, postings_of}
use Rattle.ix_run.specs.Runs.{TermValue, coded}
use Rattle.ix_run.proofs.Postings.{are_postings, postings_counted, postings_in, stands_from, stands_of}

-- the dictionary entry of a term
abbrev pub entry_of : List Occurrence → TermValue → DictionaryEntry
entry_of occurrences term = record { term = term.term; postings = postings_of (term.term) occurrences }

-- the parts that the terms make of a collection
abbrev pub parts_of : Collection → List TermValue → Parts
parts_of collection terms = record {
  stop = collection.stop;
  rows = map row_of collection.documents;
  entries = map (entry_of (occurrences_of 0 collection.documents)) terms;
}

some_from_length : {A : Type 0} (xs : List A) → xs ≢ [] → 0 < length xs
some_from_length [] some = absurd (some refl)
some_from_length (x ∷ xs) some = omega arith

-- a position of the counted postings is one of the term in the collection
positions_are : (collection : Collection) (term : List ℕ) (number position : ℕ)
    → HasPosition (postings_of term (occurrences_of 0 collection.documents)) number position ↔ HasPosting collection term number position
positions_are collection term number position =
    let P : List Posting → Type 0 = λ ps. HasPosition ps number position in
    let counted = postings_counted term collection.documents in (
      λ has.
          let at = stands_from term 0 collection.documents number position (subst P counted has) in
          let here : number ≡ at.place = let c = at.counted in omega arith in
          record { document = at.row; numbered = ap (slice_get collection.documents) here ∙ at.numbered; entry = at.entry },
      λ has.
          let Q : ℕ → Type 0 = λ n. HasPosition (postings_in term 0 collection.documents) n position in
          let zero_more : 0 + number ≡ number = omega arith in
          subst P (sym counted) (subst Q zero_more (stands_of term 0 collection.documents number has.document position has.numbered has.entry)),
    )

-- counted postings are in order
ordered : (collection : Collection) (term : List ℕ) → postings_of term (occurrences_of 0 collection.documents) ≢ [] → AreTermPostings (postings_of term (occurrences_of 0 collection.documents))
ordered collection term some =
    let counted = postings_counted term collection.documents in
    subst AreTermPostings (sym counted) (are_postings term collection.documents (some_from_length (postings_in term 0 collection.documents) (λ none. some (counted ∙ none))))

-- the terms of the entries
texts_are : (occurrences : List Occurrence) (terms : List TermValue) → terms_of (map (entry_of occurrences) terms) ≡ texts_of terms
texts_are occurrences [] = refl
texts_are occurrences (term ∷ terms) = ap (λ texts. term.term ∷ texts) (texts_are occurrences terms)

-- a text of the terms is that of a term
text_of_term : (occurrences : List Occurrence) (terms : List TermValue) (text : List ℕ) → All (λ c. IsCoded c (postings_of (c.term) occurrences)) terms → Contains (texts_of terms) text
    → postings_of text occurrences ≢ []
text_of_term occurrences terms text each has =
    let P : List ℕ → Type 0 = λ t. postings_of t occurrences ≢ [] in
    All-contains P (texts_of terms) text
    (All-map P (λ c. c.term) terms (All-weaker (λ c. IsCoded c (postings_of (c.term) occurrences)) (λ c. P (c.term)) (λ c is. is.some) terms each)) has

pub are_parts : (collection : Collection) (terms : List TermValue) → AreTermsOf terms (occurrences_of 0 collection.documents) → ArePartsOf collection (parts_of collection terms)
are_parts collection terms are =
    let occurrences = occurrences_of 0 collection.documents in
    let texts = texts_are occurrences terms in
    record {
      stop = refl;
      rows = refl;
      vocabulary = subst (IsVocabulary collection) (sym texts) (record {
        ascending = are.ascending;
        posted = λ term has.
            let (number, (position, at)) = some_position (postings_of term occurrences) (ordered collection term (text_of_term occurrences terms term are.each has)) in
            (number, (position, (positions_are collection term number position).0 at));
        complete = λ term number position has. are.complete term (λ none. nowhere term number position ((positions_are collection term number position).1 has) none);
      });
      entries =
          All-map (IsEntryOf collection) (entry_of occurrences) terms
          (All-weaker (λ c. IsCoded c (postings_of (c.term) occurrences)) (λ c. IsEntryOf collection (entry_of occurrences c))
          (λ c is. record { ordered = ordered collection (c.term) is.some; posted = positions_are collection (c.term) }) terms are.each);
    }
  where
    nowhere : (term : List ℕ) (number position : ℕ) → HasPosition (postings_of term (occurrences_of 0 collection.documents)) number position → postings_of term (occurrences_of 0 collection.documents) ≡ [] → ⊥
    nowhere term number position at none =
        let P : List Posting → Type 0 = λ ps. Contains ps (number, at.positions) in
        let (k, within, is) = subst P none at.among in absurd (omega arith)

-- the terms as a run shows them
pub terms_shown : (occurrences : List Occurrence) (terms : List TermValue) → All (λ c. IsCoded c (postings_of (c.term) occurrences)) terms
    → terms ≡ map coded (map (entry_of occurrences) terms)
terms_shown occurrences [] each = refl
terms_shown occurrences (term ∷ terms) each =
    let here = All-head (λ c. IsCoded c (postings_of (c.term) occurrences)) term terms each in
    ap₂ (λ (t : TermValue) (ts : List TermValue). t ∷ ts) (same here)
    (terms_shown occurrences terms (All-tail (λ c. IsCoded c (postings_of (c.term) occurrences)) term terms each))
  where
    same : IsCoded term (postings_of (term.term) occurrences) → term ≡ coded (entry_of occurrences term)
    same is = λ i. record { term = term.term; documents = is.documents i; last = is.last i; list = is.list i }
