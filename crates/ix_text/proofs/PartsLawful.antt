-- The parts of a lawful collection are lawful, and their numbers are small.
use Rattle.std.proofs.Common.{◌≡◌, ℕ, ◌+◌, ◌^◌, ◌<◌, ◌≤◌, List, [], ◌∷◌, map, length, get_or, slice_get, Some, All, Contains, sum_by, refl, sym, ap, ◌∙◌, subst, arith}
use Rattle.std.proofs.lemmas.List.{length-map}
use Rattle.std.proofs.lemmas.List.Elements.{All-contains, All-map, Contains-get_or}
use Rattle.std.proofs.lemmas.List.Sums.{sum_by-cons, get_or-le-sum_by}
use Rattle.std.proofs.lemmas.Option.{slice_get_within, slice_get-map, get_or_from_slice_get}
use Rattle.std.specs.Option.{option_map}
use Rattle.ix_text.specs.ByteOrder.{IsAscending}
use Rattle.ix_text.specs.Collections.{Collection, Document, IsName, IsLawful, IsLawfulEntry, HasPosting}
use Rattle.ix_text.specs.Parts.{Parts, Posting, DictionaryEntry, DocumentRow, ArePartsOf, IsTermPosting, IsEntryOf, row_of}
use Rattle.ix_text.specs.PartsLaws.{IsInRange, IsLawfulTerm, AreLawful}
use Rattle.ix_text.specs.Terms.{IsTerm}
use Rattle.ix_text.proofs.CollectionTold.{contains_first, some_position}

-- what holds of all holds of what stands at a place
pub at_place : {A : Type 0} (P : A → Type 0) (xs : List A) (k : ℕ) (x : A) → All P xs → slice_get xs k ≡ Some x → P x
at_place P xs k x all found = subst P (get_or_from_slice_get xs k x x found) (all k x (slice_get_within xs k x found))

-- a sum of what is made of the elements
pub sum_by-map : {A B : Type 0} (f : B → ℕ) (g : A → B) (xs : List A) → sum_by f (map g xs) ≡ sum_by (λ x. f (g x)) xs
sum_by-map f g [] = refl
sum_by-map f g (x ∷ xs) = sum_by-cons f (g x) (map g xs) ∙ ap (λ n. f (g x) + n) (sum_by-map f g xs) ∙ sym (sum_by-cons (λ y. f (g y)) x xs)

module _ (collection : Collection) (parts : Parts) (lawful : IsLawful collection) (of : ArePartsOf collection parts) where
  -- the row of a document stands at the document's number
  row_numbered : (number : ℕ) (document : Document) → slice_get collection.documents number ≡ Some document → slice_get parts.rows number ≡ Some (row_of document)
  row_numbered number document numbered =
      ap (λ (rows : List DocumentRow). slice_get rows number) of.rows ∙ slice_get-map row_of collection.documents number ∙ ap (option_map row_of) numbered

  entry_of : (entry : DictionaryEntry) → Contains parts.entries entry → IsEntryOf collection entry
  entry_of entry among = All-contains (IsEntryOf collection) parts.entries entry of.entries among

  posting_in_range : (term : List ℕ) (number position : ℕ) → HasPosting collection term number position → IsInRange parts.rows number position
  posting_in_range term number position posting = record {
    row = row_of posting.document;
    numbered = row_numbered number posting.document posting.numbered;
    below = slice_get_within posting.document.tokens position (Some term) posting.entry;
  }

  posted_term : (term : List ℕ) (number position : ℕ) → HasPosting collection term number position → IsTerm term × ¬ (Contains collection.stop term)
  posted_term term number position posting =
      let tokens = at_place (λ (d : Document). All (IsLawfulEntry collection.stop) d.tokens) collection.documents number posting.document lawful.entries posting.numbered in
      at_place (IsLawfulEntry collection.stop) posting.document.tokens position (Some term) tokens posting.entry

  lawful_term : (entry : DictionaryEntry) → Contains parts.entries entry → IsLawfulTerm parts entry
  lawful_term entry among =
      let is = entry_of entry among in
      let (number, (position, has)) = some_position entry.postings is.ordered in
      let posting = (is.posted number position).0 has in
      let term = posted_term entry.term number position posting in
      record {
        term = term.0;
        no_stop = subst (λ (stop : List (List ℕ)). ¬ (Contains stop entry.term)) (sym of.stop) term.1;
        ordered = is.ordered;
        in_range = λ n p h. posting_in_range entry.term n p ((is.posted n p).0 h);
      }

  -- one place holds one term
  one_term : (term other : List ℕ) (number position : ℕ) → HasPosting collection term number position → HasPosting collection other number position → term ≡ other
  one_term term other number position p q =
      let same : p.document ≡ q.document = cc (p.numbered, q.numbered) in
      cc (p.entry, q.entry, ap (λ (d : Document). slice_get d.tokens position) same)

  pub lawful_parts : AreLawful parts
  lawful_parts = record {
    stop_terms = subst (All IsTerm) (sym of.stop) lawful.stop_terms;
    stop_ascending = subst IsAscending (sym of.stop) lawful.stop_ascending;
    few_stop_terms = subst (λ (stop : List (List ℕ)). length stop ≤ 2 ^ 28) (sym of.stop) lawful.few_stop_terms;
    names = subst (All (λ (row : DocumentRow). IsName row.name)) (sym of.rows) (All-map (λ (row : DocumentRow). IsName row.name) row_of collection.documents lawful.names);
    few_documents = omega (arith, ap length of.rows, length-map collection.documents row_of, lawful.few_documents);
    few_tokens = omega (arith, ap (sum_by (λ (row : DocumentRow). row.tokens)) of.rows, sum_by-map (λ (row : DocumentRow). row.tokens) row_of collection.documents, lawful.few_tokens);
    ascending = of.vocabulary.ascending;
    terms = λ k d below. lawful_term (get_or parts.entries k d) (Contains-get_or parts.entries k d below);
    apart = λ one other number position a b h i.
        one_term one.term other.term number position (((entry_of one a).posted number position).0 h) (((entry_of other b).posted number position).0 i);
  }

-- a row in range is below the counts
pub place_below : (parts : Parts) → AreLawful parts → (number position : ℕ) → IsInRange parts.rows number position → (number < 2 ^ 28) × (position < 2 ^ 28)
place_below parts lawful number position range =
    let within : number < length parts.rows = slice_get_within parts.rows number range.row range.numbered in
    let there : get_or parts.rows number range.row ≡ range.row = get_or_from_slice_get parts.rows number range.row range.row range.numbered in
    let few : range.row.tokens ≤ sum_by (λ row. row.tokens) parts.rows =
    subst (λ (row : DocumentRow). row.tokens ≤ sum_by (λ (r : DocumentRow). r.tokens) parts.rows) there (get_or-le-sum_by (λ (row : DocumentRow). row.tokens) parts.rows number range.row within) in
    (omega (arith, lawful.few_documents), omega (arith, lawful.few_tokens, range.below))

pub posting_below : (parts : Parts) → AreLawful parts → (entry : DictionaryEntry) → IsLawfulTerm parts entry → (posting : Posting) → Contains entry.postings posting → (posting.0 < 2 ^ 28) × All (λ position. position < 2 ^ 28) posting.1
posting_below parts lawful entry is posting among =
    let rising : IsTermPosting posting = All-contains IsTermPosting entry.postings posting is.ordered.each among in
    let (first, here) = contains_first posting.1 rising.0 in
    ((below first here).0, λ k d within. (below (get_or posting.1 k d) (Contains-get_or posting.1 k d within)).1)
  where
    below : (position : ℕ) → Contains posting.1 position → (posting.0 < 2 ^ 28) × (position < 2 ^ 28)
    below position positioned =
        place_below parts lawful posting.0 position (is.in_range posting.0 position (record { positions = posting.1; among = among; positioned = positioned }))

pub postings_below : (parts : Parts) → AreLawful parts → All (λ entry. All (λ posting. (posting.0 < 2 ^ 28) × All (λ position. position < 2 ^ 28) posting.1) entry.postings) parts.entries
postings_below parts lawful k d below = λ i e within.
    let entry = get_or parts.entries k d in
    posting_below parts lawful entry (lawful.terms k d below) (get_or entry.postings i e) (Contains-get_or entry.postings i e within)
