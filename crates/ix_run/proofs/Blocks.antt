-- A block of documents, inverted document by document.
use Rattle.std.proofs.Common.{◌≡◌, ℕ, zero, suc, ◌+◌, ◌^◌, ◌<◌, ◌≤◌, List, [], ◌∷◌, ◌++◌, length, map, take, get_or, All, String, refl, sym, ap, ap₂, subst, ◌∙◌, inl, inr, arith}
use Rattle.std.proofs.lemmas.List.{length-append, map-append, length-map, take_more}
use Rattle.std.proofs.lemmas.List.Elements.{All-nil, All-push, All-weaker}
use Rattle.std.proofs.lemmas.List.Sums.{sum_by-cons}
use Rattle.std.specs.HashMap.{HashMap}
use Rattle.ix_text.specs.Collections.{Document, IsLawful, IsLawfulEntry, IsName, NamedText, collection_of}
use Rattle.ix_text.specs.Parts.{DocumentRow, row_of}
use Rattle.ix_text.specs.StopSets.{IsStopSet}
use Rattle.ix_text.specs.TokenLists.{Entry, token_list}
use Rattle.ix_run.specs.CodedTerms.{AreTermsOf}
use Rattle.ix_run.specs.Dictionaries.{HoldsTokens, tokens_in}
use Rattle.ix_run.specs.DocumentEnds.{ends_of}
use Rattle.ix_run.specs.Inverted.{IsLawfulDocument, document_of, documents_of, occurrences_of, tokens_of}
use Rattle.ix_run_text.specs.Heads.{row_of_doc}
use Rattle.ix_run.specs.Runs.{IsRunOf, IsTooLarge, RunValue, TermValue}
use Rattle.ix_run_text.specs.declared.head.RunDoc.{RunDoc}
use Rattle.ix_run.proofs.Inverting.{are_parts, parts_of, terms_shown}
use Rattle.ix_run.proofs.Numbering.{length_held}
use Rattle.ix_run.proofs.SpanLemmas.{ends_of-push, tokens_in-push}

-- the documents are inverted into the dictionary, and have these ends and rows
pub record IsInvertedBefore {Y S : Type 0} (stop : List (List ℕ)) (documents : List Document) (numbers : HashMap (String Y) ℕ S) (tokens ends : List ℕ) (rows : List RunDoc) : Type 0 where
  pub shown : map row_of_doc rows ≡ map row_of documents
  pub held : HoldsTokens numbers tokens (tokens_in documents)
  pub ended : ends ≡ ends_of 0 documents
  pub lawful : All (IsLawfulDocument stop) documents
  pub count : length tokens ≡ tokens_of documents
  pub few : tokens_of documents ≤ 2 ^ 28

-- what a map makes of the elements before the next index
pub map_take_more : {A B : Type 0} (f : A → B) (xs : List A) (i : ℕ) (x : A) → i < length xs → x ≡ get_or xs i x → map f (take (i + 1) xs) ≡ map f (take i xs) ++ f x ∷ []
map_take_more f xs i x within is =
    ap (map f) (take_more xs i x within ∙ ap (λ y. take i xs ++ y ∷ []) (sym is)) ∙ map-append f (take i xs) (x ∷ [])

tokens_of-append : (xs : List Document) (d : Document) → tokens_of (xs ++ d ∷ []) ≡ tokens_of xs + length d.tokens
tokens_of-append [] d = sum_by-cons (λ (e : Document). length e.tokens) d [] ∙ omega arith
tokens_of-append (x ∷ xs) d =
    let one = sum_by-cons (λ (e : Document). length e.tokens) x (xs ++ d ∷ []) in
    let two = sum_by-cons (λ (e : Document). length e.tokens) x xs in
    let more = tokens_of-append xs d in omega (arith, one, two, more)

-- as many tokens stand one behind another
pub length-tokens_in : (documents : List Document) → length (tokens_in documents) ≡ tokens_of documents
length-tokens_in [] = refl
length-tokens_in (d ∷ documents) =
    let one = sum_by-cons (λ (e : Document). length e.tokens) d documents in
    let rest = length-tokens_in documents in omega (arith, one, rest, length-append d.tokens (tokens_in documents))

-- nothing is inverted yet
pub nothing_inverted : {Y S : Type 0} (stop : List (List ℕ)) (numbers : HashMap (String Y) ℕ S) (tokens ends : List ℕ) (rows : List RunDoc) → HoldsTokens numbers tokens [] → ends ≡ [] → rows ≡ [] → IsInvertedBefore stop [] numbers tokens ends rows
nothing_inverted stop numbers tokens ends rows empty ended none = record {
  shown = ap (map row_of_doc) none;
  held = empty;
  ended = ended;
  lawful = All-nil (IsLawfulDocument stop);
  count = length_held numbers tokens [] empty;
  few = omega arith;
}

-- one document more
pub one_more_inverted : {Y S : Type 0} (stop : List (List ℕ)) (documents more : List Document) (old new : HashMap (String Y) ℕ S) (tokens tokens' ends ends' : List ℕ) (rows rows' : List RunDoc) (document : Document) (row : RunDoc)
    → more ≡ documents ++ document ∷ [] → rows' ≡ rows ++ row ∷ [] → row_of_doc row ≡ row_of document
    → ((entries : List Entry) → HoldsTokens old tokens entries → HoldsTokens new tokens' (entries ++ document.tokens)) → ends' ≡ ends ++ length tokens' ∷ [] → length tokens' ≡ length tokens + length document.tokens → length tokens' ≤ 2 ^ 28
    → IsLawfulDocument stop document → IsInvertedBefore stop documents old tokens ends rows → IsInvertedBefore stop more new tokens' ends' rows'
one_more_inverted stop documents more old new tokens tokens' ends ends' rows rows' document row is rows_are same holds ended longer few lawful was =
    let total : tokens_of more ≡ tokens_of documents + length document.tokens = ap tokens_of is ∙ tokens_of-append documents document in
    let count : length tokens' ≡ tokens_of more = omega (arith, longer, was.count, total) in
    record {
      shown =
          ap (map row_of_doc) rows_are ∙ map-append row_of_doc rows (row ∷ []) ∙ ap₂ (λ rs r. rs ++ r ∷ []) was.shown same
          ∙ sym (map-append row_of documents (document ∷ [])) ∙ ap (map row_of) (sym is);
      held = subst (HoldsTokens new tokens') (sym (ap tokens_in is ∙ tokens_in-push documents document)) (holds (tokens_in documents) was.held);
      ended =
          ended ∙ ap₂ (λ es n. es ++ n ∷ []) was.ended (let size : length tokens' ≡ 0 + length (tokens_in documents) + length document.tokens = let held_count = length_held old tokens (tokens_in documents) was.held in omega (arith, longer, held_count) in size)
          ∙ sym (ends_of-push 0 documents document) ∙ ap (ends_of 0) (sym is);
      lawful = subst (All (IsLawfulDocument stop)) (sym is) (All-push (IsLawfulDocument stop) documents document was.lawful lawful);
      count = count;
      few = omega (arith, few, count);
    }

-- ---- the whole block

pub block_lawful : (stop : List (List ℕ)) (texts : List NamedText) → IsStopSet stop → All (IsLawfulDocument stop) (documents_of stop texts) → length texts ≤ 2 ^ 28 → tokens_of (documents_of stop texts) ≤ 2 ^ 28 → IsLawful (collection_of stop texts)
unfolding collection_of
block_lawful stop texts set lawful few tokens = record {
  names = All-weaker (IsLawfulDocument stop) (λ d. IsName d.name) (λ d is. is.name) (documents_of stop texts) lawful;
  stop_terms = set.terms;
  stop_ascending = set.ascending;
  entries = All-weaker (IsLawfulDocument stop) (λ d. All (IsLawfulEntry stop) d.tokens) (λ d is. is.entries) (documents_of stop texts) lawful;
  few_stop_terms = set.few;
  few_documents = omega (arith, length-map texts (document_of stop));
  few_tokens = tokens;
}

pub block_run : (stop : List (List ℕ)) (texts : List NamedText) (first : ℕ) (run : RunValue) (rows : List DocumentRow) (terms : List TermValue) → IsStopSet stop → All (IsLawfulDocument stop) (documents_of stop texts)
    → first + length texts ≤ 2 ^ 28 → tokens_of (documents_of stop texts) ≤ 2 ^ 28 → rows ≡ map row_of (documents_of stop texts) → AreTermsOf terms (occurrences_of 0 (documents_of stop texts))
    → run ≡ record { first = first; stop = stop; rows = rows; terms = terms } → IsRunOf run first (collection_of stop texts)
unfolding collection_of
block_run stop texts first run rows terms set lawful within tokens rows_are are is = record {
  lawful = block_lawful stop texts set lawful (omega arith) tokens;
  within = omega (arith, length-map texts (document_of stop), within);
  parts = parts_of (record { stop = stop; documents = documents_of stop texts }) terms;
  of_collection = are_parts (record { stop = stop; documents = documents_of stop texts }) terms are;
  held = is ∙ ap₂ (λ rs ts. record { first = first; stop = stop; rows = rs; terms = ts }) rows_are (terms_shown (occurrences_of 0 (documents_of stop texts)) terms are.each);
}

-- what is within the limits is not too large
pub block_fits : (stop : List (List ℕ)) (texts : List NamedText) (first : ℕ) → first + length texts ≤ 2 ^ 28 → tokens_of (documents_of stop texts) ≤ 2 ^ 28 → IsTooLarge first (collection_of stop texts) → ⊥
unfolding collection_of
block_fits stop texts first within tokens (inl many) = absurd (omega (arith, length-map texts (document_of stop), within, many))
block_fits stop texts first within tokens (inr many) = absurd (omega (arith, tokens, many))

pub numbers_too_large : (stop : List (List ℕ)) (texts : List NamedText) (first : ℕ) → 2 ^ 28 < first + length texts → IsTooLarge first (collection_of stop texts)
unfolding collection_of
numbers_too_large stop texts first many = inl (omega (arith, length-map texts (document_of stop), many))

pub tokens_too_large : (stop : List (List ℕ)) (texts : List NamedText) (first : ℕ) → 2 ^ 28 < tokens_of (documents_of stop texts) → IsTooLarge first (collection_of stop texts)
unfolding collection_of
tokens_too_large stop texts first many = inr many

module _ {A : Type 0} (stop : List (List ℕ)) (f : A → NamedText) where
  tokens_of-take : (xs : List A) (i : ℕ) → tokens_of (documents_of stop (map f (take i xs))) ≤ tokens_of (documents_of stop (map f xs))
  tokens_of-take [] zero = omega arith
  tokens_of-take [] (suc i) = omega arith
  tokens_of-take (x ∷ xs) zero = omega arith
  tokens_of-take (x ∷ xs) (suc i) =
      let one = sum_by-cons (λ (e : Document). length e.tokens) (document_of stop (f x)) (documents_of stop (map f (take i xs))) in
      let two = sum_by-cons (λ (e : Document). length e.tokens) (document_of stop (f x)) (documents_of stop (map f xs)) in
      let more = tokens_of-take xs i in omega (arith, one, two, more)

  -- the documents before the next index
  pub documents_more : (xs : List A) (i : ℕ) (x : A) → i < length xs → x ≡ get_or xs i x
      → documents_of stop (map f (take (i + 1) xs)) ≡ documents_of stop (map f (take i xs)) ++ document_of stop (f x) ∷ []
  documents_more xs i x within is = ap (documents_of stop) (map_take_more f xs i x within is) ∙ map-append (document_of stop) (map f (take i xs)) (f x ∷ [])

  -- a document with more tokens than may follow makes all too many
  pub too_many_tokens : (xs : List A) (i count : ℕ) (x : A) → i < length xs → x ≡ get_or xs i x → count ≡ tokens_of (documents_of stop (map f (take i xs)))
      → 2 ^ 28 < count + length (token_list stop (f x).text) → 2 ^ 28 < tokens_of (documents_of stop (map f xs))
  too_many_tokens xs i count x within is counted many =
      let more = ap tokens_of (documents_more xs i x within is) in
      let total = tokens_of-append (documents_of stop (map f (take i xs))) (document_of stop (f x)) in
      let part = tokens_of-take xs (i + 1) in omega (arith, more, total, part, counted, many)
