-- The token lists and documents of a collection with fewer terms.
use Rattle.std.proofs.Common.{◌≡◌, ◌↔◌, ℕ, Bool, true, false, cond, List, [], ◌∷◌, Option, Some, None, map, length, slice_get, All, sum_by, refl, sym, ◌∙◌, ap, ap₂, arith}
use Rattle.std.proofs.lemmas.List.{length-map}
use Rattle.std.proofs.lemmas.List.Elements.{All-map, All-weaker}
use Rattle.std.proofs.lemmas.List.Sums.{sum_by-cons}
use Rattle.std.proofs.lemmas.Option.{slice_get-map}
use Rattle.std.specs.Option.{option_map}
use Rattle.ix_text.specs.Collections.{Collection, Document, HasPosting, IsLawful, IsLawfulEntry, IsName}
use Rattle.ix_text.specs.Parts.{DocumentRow, row_of}
use Rattle.ix_text.specs.TokenLists.{Entry}
use Rattle.ix_text.proofs.PartsLemmas.{injected}
use Rattle.ix_query.specs.Satisfaction.{StandsAt}
use Rattle.ix_projection.specs.Kept.{Test, kept_collection, kept_document, kept_entry, kept_tokens}

-- ---- tokens

kept_term : (keeps : Test) (other term : List ℕ) (kept : Bool) → keeps other ≡ kept → (Some (cond kept (Some other) None) ≡ Some (Some term)) ↔ ((Some (Some other) ≡ Some (Some term)) × (keeps term ≡ true))
kept_term keeps other term true is = (λ e. (e, ap keeps (injected (injected (sym e))) ∙ is), λ h. h.0)
kept_term keeps other term false is = (λ e. absurd (cc), λ h. let same : other ≡ term = injected (injected h.0) in absurd (cc (is, h.1, ap keeps same)))

kept_found : (keeps : Test) (found : Option Entry) (term : List ℕ) → (option_map (kept_entry keeps) found ≡ Some (Some term)) ↔ ((found ≡ Some (Some term)) × (keeps term ≡ true))
kept_found keeps None term = (λ e. absurd (cc), λ h. absurd (let wrong = h.0 in cc))
kept_found keeps (Some None) term = (λ e. absurd (cc), λ h. absurd (let wrong = h.0 in cc))
kept_found keeps (Some (Some other)) term = kept_term keeps other term (keeps other) refl

-- a term is where it was if it is kept, and else nowhere
pub stands_kept : (keeps : Test) (tokens : List Entry) (position : ℕ) (term : List ℕ) → StandsAt (kept_tokens keeps tokens) position term ↔ (StandsAt tokens position term × (keeps term ≡ true))
stands_kept keeps tokens position term =
    let at = slice_get-map (kept_entry keeps) tokens position in
    let found = kept_found keeps (slice_get tokens position) term in
    (λ e. found.0 (sym at ∙ e), λ h. at ∙ found.1 h)

-- ---- documents

some_mapped : {A B : Type 0} (f : A → B) (found : Option A) (y : B) → option_map f found ≡ Some y → (x : A) × (found ≡ Some x) × (f x ≡ y)
some_mapped f None y e = absurd (cc)
some_mapped f (Some x) y e = (x, refl, injected e)

-- a document of the smaller collection is a document of the whole one, kept
pub numbered_kept : (keeps : Test) (collection : Collection) (number : ℕ) (kept : Document) → slice_get (kept_collection keeps collection).documents number ≡ Some kept
    → (document : Document) × (slice_get collection.documents number ≡ Some document) × (kept_document keeps document ≡ kept)
unfolding kept_collection
numbered_kept keeps collection number kept numbered =
    some_mapped (kept_document keeps) (slice_get collection.documents number) kept (sym (slice_get-map (kept_document keeps) collection.documents number) ∙ numbered)

pub kept_numbered : (keeps : Test) (collection : Collection) (number : ℕ) (document : Document) → slice_get collection.documents number ≡ Some document
    → slice_get (kept_collection keeps collection).documents number ≡ Some (kept_document keeps document)
unfolding kept_collection
kept_numbered keeps collection number document numbered =
    slice_get-map (kept_document keeps) collection.documents number ∙ ap (option_map (kept_document keeps)) numbered

-- the postings are those of the kept terms
pub posting_kept : (keeps : Test) (collection : Collection) (term : List ℕ) (number position : ℕ)
    → HasPosting (kept_collection keeps collection) term number position ↔ (HasPosting collection term number position × (keeps term ≡ true))
posting_kept keeps collection term number position = (
  λ has.
      let (document, numbered, is) = numbered_kept keeps collection number has.document has.numbered in
      let stands = (stands_kept keeps document.tokens position term).0 (ap (λ (d : Document). slice_get d.tokens position) is ∙ has.entry) in
      (record { document = document; numbered = numbered; entry = stands.0 }, stands.1),
  λ h. record {
    document = kept_document keeps h.0.document;
    numbered = kept_numbered keeps collection number h.0.document h.0.numbered;
    entry = (stands_kept keeps h.0.document.tokens position term).1 (h.0.entry, h.1);
  },
)

row_kept : (keeps : Test) (document : Document) → row_of (kept_document keeps document) ≡ row_of document
row_kept keeps document =
    ap (λ (n : ℕ). let row : DocumentRow = record { name = document.name; tokens = n } in row) (length-map document.tokens (kept_entry keeps))

documents_rows : (keeps : Test) (documents : List Document) → map row_of (map (kept_document keeps) documents) ≡ map row_of documents
documents_rows keeps [] = refl
documents_rows keeps (document ∷ documents) = ap₂ (λ (r : DocumentRow) (rs : List DocumentRow). r ∷ rs) (row_kept keeps document) (documents_rows keeps documents)

pub rows_kept : (keeps : Test) (collection : Collection) → map row_of (kept_collection keeps collection).documents ≡ map row_of collection.documents
unfolding kept_collection
rows_kept keeps collection = documents_rows keeps collection.documents

documents_names : (keeps : Test) (documents : List Document) → map (λ document. document.name) (map (kept_document keeps) documents) ≡ map (λ document. document.name) documents
documents_names keeps [] = refl
documents_names keeps (document ∷ documents) = ap (λ names. document.name ∷ names) (documents_names keeps documents)

pub names_kept : (keeps : Test) (collection : Collection) → map (λ document. document.name) (kept_collection keeps collection).documents ≡ map (λ document. document.name) collection.documents
unfolding kept_collection
names_kept keeps collection = documents_names keeps collection.documents

-- ---- lawfulness

lawful_term : (stop : List (List ℕ)) (term : List ℕ) (kept : Bool) → IsLawfulEntry stop (Some term) → IsLawfulEntry stop (cond kept (Some term) None)
lawful_term stop term true lawful = lawful
lawful_term stop term false lawful = tt

lawful_entry : (keeps : Test) (stop : List (List ℕ)) (entry : Entry) → IsLawfulEntry stop entry → IsLawfulEntry stop (kept_entry keeps entry)
lawful_entry keeps stop None lawful = tt
lawful_entry keeps stop (Some term) lawful = lawful_term stop term (keeps term) lawful

lawful_tokens : (keeps : Test) (stop : List (List ℕ)) (document : Document) → All (IsLawfulEntry stop) document.tokens → All (IsLawfulEntry stop) (kept_document keeps document).tokens
lawful_tokens keeps stop document lawful =
    All-map (IsLawfulEntry stop) (kept_entry keeps) document.tokens
    (All-weaker (IsLawfulEntry stop) (λ entry. IsLawfulEntry stop (kept_entry keeps entry)) (lawful_entry keeps stop) document.tokens lawful)

tokens_counted : (keeps : Test) (documents : List Document) → sum_by (λ d. length d.tokens) (map (kept_document keeps) documents) ≡ sum_by (λ d. length d.tokens) documents
tokens_counted keeps [] = refl
tokens_counted keeps (document ∷ documents) =
    omega (
      arith,
      sum_by-cons (λ (d : Document). length d.tokens) (kept_document keeps document) (map (kept_document keeps) documents),
      sum_by-cons (λ (d : Document). length d.tokens) document documents,
      length-map document.tokens (kept_entry keeps),
      tokens_counted keeps documents,
    )

pub lawful_kept : (keeps : Test) (collection : Collection) → IsLawful collection → IsLawful (kept_collection keeps collection)
unfolding kept_collection
lawful_kept keeps collection lawful = record {
  names = All-map (λ (d : Document). IsName d.name) (kept_document keeps) collection.documents lawful.names;
  stop_terms = lawful.stop_terms;
  stop_ascending = lawful.stop_ascending;
  entries = All-map (λ (d : Document). All (IsLawfulEntry collection.stop) d.tokens) (kept_document keeps) collection.documents
      (All-weaker (λ (d : Document). All (IsLawfulEntry collection.stop) d.tokens) (λ (d : Document). All (IsLawfulEntry collection.stop) (kept_document keeps d).tokens)
      (lawful_tokens keeps collection.stop) collection.documents lawful.entries);
  few_stop_terms = lawful.few_stop_terms;
  few_documents = omega (arith, length-map collection.documents (kept_document keeps), lawful.few_documents);
  few_tokens = omega (arith, tokens_counted keeps collection.documents, lawful.few_tokens);
}
