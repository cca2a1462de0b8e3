-- What stands at a place of a table, and what it tells.
use Rattle.std.proofs.Common.{◌≡◌, ℕ, ◌-◌, ◌^◌, ◌<◌, ◌≤◌, ◌⊎◌, ⊎_elim, List, [], ◌∷◌, map, length, get_or, Some, Result, Ok, Err, is_ok, true, Equal, All, Contains, MatchOption, refl, sym, ap, ◌∙◌, subst, arith}
use Rattle.std.proofs.lemmas.List.{length-map}
use Rattle.std.proofs.lemmas.List.Elements.{All-contains, All-get_or, Contains-get_or}
use Rattle.std.proofs.lemmas.Option.{slice_get-get_or, slice_get-map, slice_get_read, slice_get_within}
use Rattle.std.specs.Cmp.Lexicographic.{slice_cmp}
use Rattle.std.specs.List.{HoldsAt, slice_get}
use Rattle.std.specs.List.Sorted.{IsSearchInRange, IsBinarySearchResult}
use Rattle.std.specs.Option.{option_map}
use Rattle.std.specs.Ordering.{nat_cmp}
use Rattle.std.specs.Result.{MatchResult, result_ok}
use Rattle.ix_text.specs.ByteOrder.{IsAscending}
use Rattle.ix_text.proofs.PartsLemmas.{injected, same_entry_fields}
use Rattle.ix_text.proofs.StopSetLemmas.{same_from_Equal, searched}
use Rattle.ix_text.specs.Parts.{DictionaryEntry, Parts, terms_of}
use Rattle.ix_text.specs.PartsLaws.{AreLawful}
use Rattle.ix_text.proofs.CollectionTold.{has_collection}
use Rattle.ix_vbyte.specs.Postings.{Posting, ArePostings, list_bytes}
use Rattle.ix_vbyte.specs.Walking.{IsCodedList, postings_told}
use Rattle.ix_vbyte.specs.Skips.{AreSkips}
use Rattle.ix_vbyte.specs.declared.skips.Skip.{Skip}
use Rattle.ix_vbyte.proofs.Places.{no_skips}
use Rattle.ix_vbyte.proofs.Walks.{coded_list}
use Rattle.ix_file.specs.Opened.{lists_of}
use Rattle.ix_file.specs.LongLists.{IsLongIn}
use Rattle.ix_file.specs.ReadLists.{list_in}
use Rattle.ix_file.specs.Tables.{entries_in, term_in}
use Rattle.ix_file.specs.PlacedTerms.{PlacedTerm}
use Rattle.ix_file.specs.declared.open.tables.LongList.{LongList}
use Rattle.ix_index_text.proofs.SectionSizes.{few_entries, small_parts}

-- what a row that was read from a table stands for
pub told_at : {X Y : Type 0} (f : X → Y) (xs : List X) (i : ℕ) (x : X) → i < length (map f xs) → x ≡ get_or xs i x → slice_get (map f xs) i ≡ Some (f x)
told_at f xs i x within read =
    slice_get-map f xs i ∙ ap (option_map f) (slice_get_read xs (length xs) i x refl (omega (arith, length-map xs f)) read)

-- and what that stands for
pub told_of : {X Y Z : Type 0} (g : Y → Z) (f : X → Y) (xs : List X) (i : ℕ) (x : X) → i < length (map f xs) → x ≡ get_or xs i x → slice_get (map g (map f xs)) i ≡ Some (g (f x))
told_of g f xs i x within read = slice_get-map g (map f xs) i ∙ ap (option_map g) (told_at f xs i x within read)

-- what each row keeps, a row that was read keeps
pub kept_at : {X Y : Type 0} (P : X → Type 0) (f : X → Y) (xs : List X) (i : ℕ) (x : X) → All P xs → i < length (map f xs) → x ≡ get_or xs i x → P x
kept_at P f xs i x all within read = subst P (sym read) (All-get_or P xs i x (omega (arith, length-map xs f)) all)

-- a value where a fault cannot be
pub ok_where : {T E : Type 0} (r : Result T E) (P : T → Type 0) (Q : E → Type 0) → MatchResult r P Q → ((e : E) → Q e → ⊥) → is_ok r ≡ true
ok_where (Ok x) P Q is never = refl
ok_where (Err e) P Q is never = absurd (never e is)

-- the postings that a coded list gives are those that its bytes tell
pub walked : (count : ℕ) (bytes : List ℕ) (postings : List Posting) → IsCodedList count bytes → ((are : List Posting) → ArePostings 0 (2 ^ 32 - 1) are → length are ≡ count → bytes ≡ list_bytes are → postings ≡ are) → postings_told count 0 bytes ≡ postings
walked count bytes postings list gives =
    (coded_list count bytes list.postings list.are list.counted list.coded).told ∙ sym (gives list.postings list.are list.counted list.coded)

-- what a binary search finds among ascending texts
pub placed : {X : Type 0} (bytes : X → List ℕ) (xs : List X) (term : List ℕ) → IsAscending (map bytes xs) → (r : Result ℕ ℕ) → IsSearchInRange r (length xs) → IsBinarySearchResult (λ y. slice_cmp nat_cmp (bytes y) term) xs r
    → MatchOption (result_ok r) (¬ (Contains (map bytes xs) term)) (λ place. slice_get (map bytes xs) place ≡ Some term)
placed {X} bytes xs term up (Ok i) within tie = at xs within tie
  where
    at : (ys : List X) → i < length ys → HoldsAt (λ y. slice_cmp nat_cmp (bytes y) term ≡ Equal) ys i → slice_get (map bytes ys) i ≡ Some term
    at [] low ties = absurd (omega arith)
    at (y ∷ ys) low ties =
        slice_get-map bytes (y ∷ ys) i ∙ ap (option_map bytes) (slice_get-get_or (y ∷ ys) i y low) ∙ ap Some (same_from_Equal _ _ (ties y))
placed bytes xs term up (Err i) within parted = λ has. absurd (cc ((searched bytes xs term up (Err i) within parted).1 has))

-- there are as many as the row says
pub told_documents : (count : ℕ) (bytes : List ℕ) → IsCodedList count bytes → length (postings_told count 0 bytes) ≡ count
told_documents count bytes list = ap length (coded_list count bytes list.postings list.are list.counted list.coded).told ∙ list.counted

-- lawful parts have few entries
pub few_terms : (parts : Parts) → AreLawful parts → length parts.entries ≤ 2 ^ 28
few_terms parts are =
    let has = has_collection parts are in
    few_entries parts (small_parts has.collection parts has.lawful has.of_collection)

-- the terms of the entries are those of the rows
pub terms_in : (section : List ℕ) (rows : List PlacedTerm) → terms_of (entries_in section rows) ≡ map term_in rows
terms_in section [] = refl
terms_in section (row ∷ rows) = ap (λ terms. row.term ∷ terms) (terms_in section rows)

-- the entry of a place
pub entry_at : (entries : List DictionaryEntry) (n : ℕ) (term : List ℕ) (postings : List Posting) → slice_get (terms_of entries) n ≡ Some term → slice_get (lists_of entries) n ≡ Some postings → Contains entries (record { term = term; postings = postings })
entry_at entries n term postings terms lists =
    let bare : DictionaryEntry = record { term = term; postings = postings } in
    let within : n < length entries = omega (arith, slice_get_within (terms_of entries) n term terms, length-map entries (λ (e : DictionaryEntry). e.term)) in
    let entry = get_or entries n bare in
    let stands = slice_get-get_or entries n bare within in
    let one = injected (sym (ap (option_map (λ (e : DictionaryEntry). e.term)) stands) ∙ sym (slice_get-map (λ (e : DictionaryEntry). e.term) entries n) ∙ terms) in
    let other = injected (sym (ap (option_map (λ (e : DictionaryEntry). e.postings)) stands) ∙ sym (slice_get-map (λ (e : DictionaryEntry). e.postings) entries n) ∙ lists) in
    subst (Contains entries) (same_entry_fields entry bare one other) (Contains-get_or entries n bare within)

-- the place of a term is the number of an entry
pub record IsNumber (parts : Parts) (n : ℕ) (term : List ℕ) : Type 0 where
  pub numbered : slice_get (terms_of parts.entries) n ≡ Some term
  pub below : n < length parts.entries
  pub small : n < 2 ^ 32

pub number_at : (parts : Parts) (n : ℕ) (term : List ℕ) (terms : List (List ℕ)) → AreLawful parts → terms_of parts.entries ≡ terms → slice_get terms n ≡ Some term → IsNumber parts n term
number_at parts n term terms are same at =
    let numbered : slice_get (terms_of parts.entries) n ≡ Some term = ap (λ ts. slice_get ts n) same ∙ at in
    let below : n < length parts.entries = omega (arith, slice_get_within (terms_of parts.entries) n term numbered, length-map parts.entries (λ (e : DictionaryEntry). e.term)) in
    record { numbered = numbered; below = below; small = omega (arith, below, few_terms parts are) }

-- ---- the places of a list
pub with_places : (section : List ℕ) (terms : List PlacedTerm) (longs : List LongList) (n : ℕ) (row : PlacedTerm) (postings : List Posting) (skips : List Skip) → All (IsLongIn section terms) longs → slice_get terms n ≡ Some row
    → IsCodedList row.documents (list_in section row) → ((are : List Posting) → ArePostings 0 (2 ^ 32 - 1) are → length are ≡ row.documents → list_in section row ≡ list_bytes are → postings ≡ are)
    → (skips ≡ []) ⊎ ((long : LongList) × Contains longs long × (long.number ≡ n) × (skips ≡ long.skips.items)) → AreSkips postings skips
with_places section terms longs n row postings skips all there list gives found =
    let same : postings ≡ list.postings = gives list.postings list.are list.counted list.coded in
    subst (λ ps. AreSkips ps skips) (sym same)
    (⊎_elim (λ none. subst (AreSkips list.postings) (sym none) (no_skips list.postings))
    (λ one.
    subst (AreSkips list.postings) (sym one.3)
    ((All-contains (IsLongIn section terms) longs one.0 all one.1).places row (subst (λ m. slice_get terms m ≡ Some row) (sym one.2) there) list.postings list.are list.counted list.coded))
    found)
