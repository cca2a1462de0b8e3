-- Two collections with the same parts are the same.
use Rattle.std.proofs.Common.{◌≡◌, ℕ, ◌<◌, List, [], ◌∷◌, length, get_or, slice_get, Some, None, Contains, refl, sym, ap, ap₂, ◌∙◌, arith, inl, inr, subst}
use Rattle.std.proofs.lemmas.List.{ext_get_or, length-map}
use Rattle.std.proofs.Math.ListN.{get_or-map}
use Rattle.std.proofs.lemmas.Option.{slice_get_within, slice_get-get_or, slice_get-map, slice_get_cases, get_or_from_slice_get}
use Rattle.std.specs.Option.{option_map}
use Rattle.ix_text.specs.Collections.{Collection, Document, HasPosting}
use Rattle.ix_text.specs.TokenLists.{Entry}
use Rattle.ix_text.specs.Parts.{Parts, Posting, DictionaryEntry, DocumentRow, ArePartsOf, IsEntryOf, row_of, terms_of}

-- what stands at each place tells the list
pub same_by_places : {A : Type 0} (xs ys : List A) → length xs ≡ length ys → ((k : ℕ) (x : A) → slice_get xs k ≡ Some x → slice_get ys k ≡ Some x) → xs ≡ ys
same_by_places [] [] e same = refl
same_by_places [] (y ∷ ys) e same = absurd (omega (arith, e))
same_by_places (x ∷ xs) ys e same =
    ext_get_or x (x ∷ xs) ys e (λ i within. sym (get_or_from_slice_get ys i (get_or (x ∷ xs) i x) x (same i _ (slice_get-get_or (x ∷ xs) i x within))))

-- a list of one length has an element at each place that the other has
pub at_same_place : {A B : Type 0} (xs : List A) (ys : List B) (k : ℕ) (x : A) → length xs ≡ length ys → slice_get xs k ≡ Some x → (y : B) × (slice_get ys k ≡ Some y)
at_same_place xs ys k x e found =
    let within : k < length ys = omega (arith, slice_get_within xs k x found, e) in
    elim (slice_get_cases ys k).1 [
      | inl (y, below, is, same) ↦ (y, is)
      | inr (past, none) ↦ absurd (omega arith)
    ]

-- the entry of a dictionary that has a term
pub record HasEntry (entries : List DictionaryEntry) (term : List ℕ) : Type 0 where
  pub place : ℕ
  pub entry : DictionaryEntry
  pub within : place < length entries
  pub there : get_or entries place entry ≡ entry
  pub has : entry.term ≡ term

pub entry_of_contained : (entries : List DictionaryEntry) (term : List ℕ) → Contains (terms_of entries) term → HasEntry entries term
entry_of_contained entries term (k, within, is) =
    let none : DictionaryEntry = record { term = term; postings = [] } in
    let below : k < length entries = omega (arith, within, length-map entries (λ (e : DictionaryEntry). e.term)) in
    record {
      place = k;
      entry = get_or entries k none;
      within = below;
      there = get_or_from_slice_get entries k (get_or entries k none) (get_or entries k none) (slice_get-get_or entries k none below);
      has = sym (get_or-map (λ (e : DictionaryEntry). e.term) entries k none) ∙ is;
    }

-- a posting in one collection is one in every collection with the same parts
pub posting_in_other : (parts : Parts) (one other : Collection) → ArePartsOf one parts → ArePartsOf other parts → (term : List ℕ) (number position : ℕ) → HasPosting one term number position → HasPosting other term number position
posting_in_other parts one other p q term number position posting =
    let found = entry_of_contained parts.entries term (p.vocabulary.complete term number position posting) in
    let P : List ℕ → Type 0 = λ t. HasPosting one t number position in
    let Q : List ℕ → Type 0 = λ t. HasPosting other t number position in
    let of_one : IsEntryOf one found.entry = subst (λ (e : DictionaryEntry). IsEntryOf one e) found.there (p.entries found.place found.entry found.within) in
    let of_other : IsEntryOf other found.entry = subst (λ (e : DictionaryEntry). IsEntryOf other e) found.there (q.entries found.place found.entry found.within) in
    subst Q found.has ((of_other.posted number position).0 ((of_one.posted number position).1 (subst P (sym found.has) posting)))

-- the token at one place of two documents with the same number and row
pub token_in_other : (one other : Collection) (number : ℕ) (d e : Document) → slice_get one.documents number ≡ Some d → slice_get other.documents number ≡ Some e → ((term : List ℕ) (position : ℕ) → HasPosting one term number position → HasPosting other term number position) → (position : ℕ) (term : List ℕ) → slice_get d.tokens position ≡ Some (Some term) → slice_get e.tokens position ≡ Some (Some term)
token_in_other one other number d e at_one at_other moves position term found =
    let posting = moves term position (record { document = d; numbered = at_one; entry = found }) in
    let same : posting.document ≡ e = cc in
    subst (λ (x : Document). slice_get x.tokens position ≡ Some (Some term)) same posting.entry

-- two entries at one place are the same, where each term of one is a term of the other
pub same_entry : (x y : Entry) → ((term : List ℕ) → x ≡ Some term → y ≡ Some term) → ((term : List ℕ) → y ≡ Some term → x ≡ Some term) → x ≡ y
same_entry None None f g = refl
same_entry None (Some t) f g = g t refl
same_entry (Some t) y f g = sym (f t refl)

-- a row tells a document's name and the number of its tokens
pub name_told : (d e : Document) → row_of d ≡ row_of e → d.name ≡ e.name
name_told d e same = ap (λ (row : DocumentRow). row.name) same

pub count_told : (d e : Document) → row_of d ≡ row_of e → length d.tokens ≡ length e.tokens
count_told d e same = ap (λ (row : DocumentRow). row.tokens) same

-- a document is its name and its tokens, and a collection its stop set and its documents
pub same_fields : (d e : Document) → d.name ≡ e.name → d.tokens ≡ e.tokens → d ≡ e
same_fields d e names tokens = ap₂ (λ (name : List ℕ) (list : List Entry). let document : Document = record { name = name; tokens = list } in document) names tokens

pub same_collection_fields : (one other : Collection) → one.stop ≡ other.stop → one.documents ≡ other.documents → one ≡ other
same_collection_fields one other stops documents = ap₂ (λ (stop : List (List ℕ)) (list : List Document). let collection : Collection = record { stop = stop; documents = list } in collection) stops documents

-- a row, an entry and parts are their fields
pub same_row_fields : (one other : DocumentRow) → one.name ≡ other.name → one.tokens ≡ other.tokens → one ≡ other
same_row_fields one other names counts = ap₂ (λ (name : List ℕ) (tokens : ℕ). let row : DocumentRow = record { name = name; tokens = tokens } in row) names counts

pub same_entry_fields : (one other : DictionaryEntry) → one.term ≡ other.term → one.postings ≡ other.postings → one ≡ other
same_entry_fields one other terms lists = ap₂ (λ (term : List ℕ) (postings : List Posting). let entry : DictionaryEntry = record { term = term; postings = postings } in entry) terms lists

pub same_parts_fields : (one other : Parts) → one.stop ≡ other.stop → one.rows ≡ other.rows → one.entries ≡ other.entries → one ≡ other
same_parts_fields one other stops rows entries =
    let with_stop : List (List ℕ) → Parts = λ stop. record { stop = stop; rows = one.rows; entries = one.entries } in
    let with_rows : List DocumentRow → Parts = λ list. record { stop = other.stop; rows = list; entries = one.entries } in
    let with_entries : List DictionaryEntry → Parts = λ list. record { stop = other.stop; rows = other.rows; entries = list } in
    ap with_stop stops ∙ ap with_rows rows ∙ ap with_entries entries

-- what two present values hold
pub injected : {A : Type 0} {x y : A} → Some x ≡ Some y → x ≡ y
injected e = cc

module _ (parts : Parts) (one other : Collection) (p : ArePartsOf one parts) (q : ArePartsOf other parts) where
  -- two documents with one number have the same token list
  pub same_tokens : (number : ℕ) (d e : Document) → slice_get one.documents number ≡ Some d → slice_get other.documents number ≡ Some e → row_of d ≡ row_of e → d.tokens ≡ e.tokens
  same_tokens number d e at_one at_other same =
      let there = token_in_other one other number d e at_one at_other (λ term position h. posting_in_other parts one other p q term number position h) in
      let back = token_in_other other one number e d at_other at_one (λ term position h. posting_in_other parts other one q p term number position h) in
      same_by_places d.tokens e.tokens (count_told d e same) (λ position entry found.
      let (entry', found') = at_same_place d.tokens e.tokens position entry (count_told d e same) found in
      let equal = same_entry entry entry'
      (λ term is. injected (sym found' ∙ there position term (found ∙ ap Some is)))
      (λ term is. injected (sym found ∙ back position term (found' ∙ ap Some is))) in
      found' ∙ ap Some (sym equal))

  -- two documents with one number are the same
  pub same_document : (number : ℕ) (d : Document) → slice_get one.documents number ≡ Some d → slice_get other.documents number ≡ Some d
  same_document number d at_one =
      let rows = sym p.rows ∙ q.rows in
      let lengths : length one.documents ≡ length other.documents = sym (length-map one.documents row_of) ∙ ap length rows ∙ length-map other.documents row_of in
      let (e, at_other) = at_same_place one.documents other.documents number d lengths at_one in
      let row = injected (sym (slice_get-map row_of one.documents number ∙ ap (option_map row_of) at_one) ∙ ap (λ (rs : List DocumentRow). slice_get rs number) rows ∙ slice_get-map row_of other.documents number ∙ ap (option_map row_of) at_other) in
      let tokens = same_tokens number d e at_one at_other row in
      at_other ∙ ap Some (sym (same_fields d e (name_told d e row) tokens))

  pub same_collection : one ≡ other
  same_collection =
      let rows = sym p.rows ∙ q.rows in
      let lengths : length one.documents ≡ length other.documents = sym (length-map one.documents row_of) ∙ ap length rows ∙ length-map other.documents row_of in
      let documents = same_by_places one.documents other.documents lengths same_document in
      same_collection_fields one other (sym p.stop ∙ q.stop) documents
