-- The terms of an opened index, one after the other, as a source's.
use Rattle.std.proofs.Common.{◌≡◌, ℕ, suc, ◌+◌, ◌-◌, ◌^◌, ◌<◌, ◌≤◌, List, [], ◌∷◌, ◌++◌, length, map, drop, get_or, Contains, Some, None, slice_get, refl, sym, ap, subst, ◌∙◌, arith, length-drop}
use Rattle.std.proofs.Math.Seq.{drop-cons}
use Rattle.std.proofs.lemmas.List.{get_or-map, length-map}
use Rattle.std.proofs.lemmas.List.Elements.{All-contains, Contains-get_or}
use Rattle.std.proofs.lemmas.Option.{get_or_from_slice_get, slice_get_within}
use Rattle.ix_file.specs.Gaps.{next_after}
use Rattle.ix_file.specs.Postings.{ArePostings, documents_of}
use Rattle.ix_file.proofs.PostingLemmas.{list_apart}
use Rattle.ix_text.specs.Collections.{Collection}
use Rattle.ix_text.specs.Parts.{ArePartsOf, DictionaryEntry, DocumentRow, Parts, Posting, row_of, terms_of}
use Rattle.ix_text.specs.PartsLaws.{AreLawful}
use Rattle.ix_text.proofs.CollectionTold.{has_collection}
use Rattle.ix_text.proofs.PartsLemmas.{same_row_fields}
use Rattle.ix_file.specs.Opened.{lists_of, names_of, token_counts}
use Rattle.ix_run.specs.Heads.{Heading, parts_with}
use Rattle.ix_run.specs.Runs.{IsRunOf, coded, last_document, run_value}
use Rattle.ix_run.specs.RunSources.{EndsAt, HasGiven, HasLeft, IsAtPlace, unread}
use Rattle.ix_run.proofs.RunSources.{ToldBy, nothing_left, place_unread, run_unread}
use Rattle.ix_run.proofs.WholeLists.{codable}

-- no term comes behind the last
pub no_more : (entries : List DictionaryEntry) (number : ℕ) → length entries ≤ number → map coded (drop number entries) ≡ []
no_more entries number past = nothing_left coded (drop number entries) (omega (arith, length-drop number entries))

-- the term of a number, with its postings
pub record NextEntry (entries : List DictionaryEntry) (number : ℕ) (term : List ℕ) (postings : List Posting) : Type 0 where
  pub entry : DictionaryEntry
  pub among : Contains entries entry
  pub terms : map coded (drop number entries) ≡ coded entry ∷ map coded (drop (number + 1) entries)
  pub of_term : term ≡ entry.term
  pub of_postings : postings ≡ entry.postings

no_entry : DictionaryEntry
no_entry = record { term = []; postings = [] }

pub next_entry : (entries : List DictionaryEntry) (number : ℕ) (term : List ℕ) (postings : List Posting) → slice_get (terms_of entries) number ≡ Some term → slice_get (lists_of entries) number ≡ Some postings
    → NextEntry entries number term postings
next_entry entries number term postings at_term at_list =
    let low : number < length entries = omega (arith, slice_get_within (terms_of entries) number term at_term, length-map entries (λ (e : DictionaryEntry). e.term)) in
    let entry : DictionaryEntry = get_or entries number no_entry in
    let e : number + 1 ≡ suc number = omega arith in
    record {
      entry = entry;
      among = Contains-get_or entries number no_entry low;
      terms = ap (map coded) (drop-cons entries number no_entry low) ∙ ap (λ n. coded entry ∷ map coded (drop n entries)) (sym e);
      of_term = sym (get_or_from_slice_get (terms_of entries) number term [] at_term) ∙ get_or-map (λ (x : DictionaryEntry). x.term) entries number no_entry [] low;
      of_postings = sym (get_or_from_slice_get (lists_of entries) number postings [] at_list) ∙ get_or-map (λ (x : DictionaryEntry). x.postings) entries number no_entry [] low;
    }

-- the coded list tells the postings
pub told_by : (parts : Parts) (entry : DictionaryEntry) (postings : List Posting) → AreLawful parts → Contains parts.entries entry → postings ≡ entry.postings → ToldBy (coded entry) postings
told_by parts entry postings lawful among same told are counted bytes =
    let heading : Heading = record { first = 0; stop = parts.stop; rows = parts.rows } in
    let few = lawful.few_documents in
    let can : ArePostings 0 (2 ^ 32 - 1) entry.postings =
    All-contains (λ (e : DictionaryEntry). ArePostings 0 (2 ^ 32 - 1) e.postings) parts.entries entry (codable heading parts.entries (record { lawful = lawful; within = omega arith })) among in
    same ∙ (list_apart 0 (2 ^ 32 - 1) entry.postings told [] [] can are (sym counted) (ap (λ (b : List ℕ). b ++ []) bytes)).0

-- an index of which nothing was asked is at a place of its dictionary
pub place_first : (first : ℕ) (parts : Parts) → AreLawful parts → first + length parts.rows ≤ 2 ^ 28 → (heading : Heading) → heading ≡ record { first = first; stop = parts.stop; rows = parts.rows }
    → (postings : List Posting) → postings ≡ [] → IsAtPlace (record { heading = heading; terms = map coded parts.entries; term = None; postings = postings })
place_first first parts lawful within heading same postings none =
    let has = has_collection parts lawful in
    let size = ap length has.of_collection.rows ∙ length-map has.collection.documents row_of in
    let is : IsRunOf (run_value first parts) first has.collection = record { lawful = has.lawful; within = omega (arith, size); parts = parts; of_collection = has.of_collection; held = refl } in
    let P : Heading → Type 0 = λ h. IsAtPlace (record { heading = h; terms = map coded parts.entries; term = None; postings = postings }) in
    subst P (sym same) (place_unread (record { first = first; stop = parts.stop; rows = parts.rows }) (map coded parts.entries) postings none (run_unread (run_value first parts) first has.collection is))

-- of which nothing was asked yet
pub unread_index : (first : ℕ) (parts : Parts) → AreLawful parts → first + length parts.rows ≤ 2 ^ 28 → HasGiven (unread (run_value first parts)) [] None
unread_index first parts lawful within =
    let has = has_collection parts lawful in
    let size = ap length has.of_collection.rows ∙ length-map has.collection.documents row_of in
    run_unread (run_value first parts) first has.collection (record { lawful = has.lawful; within = omega (arith, size); parts = parts; of_collection = has.of_collection; held = refl })

-- what an index yields from its start is its collection's dictionary
pub index_yields : (first : ℕ) (parts : Parts) → AreLawful parts → (collection : Collection) → ArePartsOf collection parts → (entries : List DictionaryEntry) → HasLeft (unread (run_value first parts)) [] entries
    → ArePartsOf collection (parts_with (unread (run_value first parts)).heading entries)
index_yields first parts lawful collection of_collection entries left =
    let heading : Heading = record { first = 0; stop = parts.stop; rows = parts.rows } in
    let few = lawful.few_documents in
    let same : entries ≡ parts.entries = left.behind parts.entries (record { told = refl; each = codable heading parts.entries (record { lawful = lawful; within = omega arith }) }) in
    subst (λ (es : List DictionaryEntry). ArePartsOf collection (parts_with heading es)) (sym same) of_collection

-- the row of the document of a number
pub row_at : (rows : List DocumentRow) (number : ℕ) (name : List ℕ) (tokens : ℕ) (d : DocumentRow) → slice_get (names_of rows) number ≡ Some name → slice_get (token_counts rows) number ≡ Some tokens
    → (number < length rows) × (get_or rows number d ≡ record { name = name; tokens = tokens })
row_at rows number name tokens d at_name at_tokens =
    let low : number < length rows = omega (arith, slice_get_within (names_of rows) number name at_name, length-map rows (λ (r : DocumentRow). r.name)) in (
      low,
      same_row_fields (get_or rows number d) (record { name = name; tokens = tokens })
          (sym (get_or-map (λ (r : DocumentRow). r.name) rows number d [] low) ∙ get_or_from_slice_get (names_of rows) number name [] at_name)
          (sym (get_or-map (λ (r : DocumentRow). r.tokens) rows number d 0 low) ∙ get_or_from_slice_get (token_counts rows) number tokens 0 at_tokens),
    )

-- ---- the last document of a list

-- what is gone over, and what is left
pub record GoesOver (all left : List Posting) (last : ℕ) : Type 0 where
  pub ahead : 0 < length left → (0 < length all) × (next_after 0 (documents_of all) ≡ next_after 0 (documents_of left))
  pub over : length left ≡ 0 → EndsAt last all

pub goes_over : (all left next : List Posting) (posting : Posting) (last : ℕ) → GoesOver all left last → left ≡ posting ∷ next → GoesOver all next posting.0
goes_over all left next posting last goes is =
    let some : 0 < length left = let e = ap length is in omega (arith, e) in
    let a = goes.ahead some in
    let b : next_after 0 (documents_of left) ≡ next_after (posting.0 + 1) (documents_of next) = ap (λ (ps : List Posting). next_after 0 (documents_of ps)) is in
    record { ahead = λ more. (a.0, a.1 ∙ b ∙ from_any (posting.0 + 1) next more); over = λ none any. a.1 ∙ b ∙ at_end (posting.0 + 1) next none }
  where
    from_any : (n : ℕ) (ps : List Posting) → 0 < length ps → next_after n (documents_of ps) ≡ next_after 0 (documents_of ps)
    from_any n [] more = absurd (omega arith)
    from_any n (p ∷ ps) more = refl

    at_end : (n : ℕ) (ps : List Posting) → length ps ≡ 0 → next_after n (documents_of ps) ≡ n
    at_end n [] none = refl
    at_end n (p ∷ ps) none = absurd (omega arith)

-- a list ends at its last document
pub ends_somewhere : (postings : List Posting) → EndsAt (last_document postings) postings
ends_somewhere [] some = absurd (omega arith)
ends_somewhere (p ∷ ps) some = let above = later (p.0 + 1) ps (omega arith) in omega (arith, above)
  where
    later : (n : ℕ) (qs : List Posting) → 0 < n → 0 < next_after n (documents_of qs)
    later n [] some = some
    later n (q ∷ qs) some = later (q.0 + 1) qs (omega arith)
