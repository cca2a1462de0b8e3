-- The lists of POSTINGS, found where the rows of the dictionary say: what they are, and that they are all of POSTINGS.
use Rattle.std.proofs.Common.{◌≡◌, ℕ, suc, ◌+◌, ◌-◌, ◌^◌, ◌<◌, ◌≤◌, List, [], ◌∷◌, ◌++◌, map, flat_map, length, take, drop, get_or, slice_get, slice_range, Some, All, Contains, sum_by, refl, sym, ap, ap₂, ◌∙◌, subst, arith, length-drop}
use Rattle.std.proofs.lemmas.List.{append-nil, append_assoc, length-take-le}
use Rattle.std.proofs.lemmas.List.Elements.{All-cons, All-head, All-nil, All-tail, Contains-get_or}
use Rattle.std.proofs.lemmas.List.Folds.{drop_split, flat_map-map}
use Rattle.std.proofs.lemmas.List.Sums.{sum_by-cons, get_or-le-sum_by}
use Rattle.std.proofs.lemmas.Option.{slice_get_within, get_or_from_slice_get}
use Rattle.std.proofs.Math.Seq.{drop-length}
use Rattle.std.specs.List.{AllZip}
use Rattle.ix_text.specs.Parts.{DictionaryEntry, DocumentRow, Posting}
use Rattle.ix_text.specs.PartsLaws.{IsInRange}
use Rattle.ix_text.specs.TokenLaws.{IsPostingIn}
use Rattle.ix_text.specs.TokenNumbers.{AreDistinct, numbers_of_entries, numbers_of_postings}
use Rattle.ix_text.proofs.CollectionTold.{contains_first}
use Rattle.ix_vbyte.specs.Postings.{ArePostings, LiesBelow}
use Rattle.ix_vbyte.proofs.Sizes.{postings_from}
use Rattle.ix_vbyte.proofs.Walks.{coded_list}
use Rattle.ix_index_text.specs.Listings.{Listing, listing_of}
use Rattle.ix_file.specs.ReadListings.{AreLaidOut, listing_in, listings_in, sizes_sum}
use Rattle.ix_file.specs.Opened.{lists_of}
use Rattle.ix_file.specs.ReadLists.{AreListedIn, list_in}
use Rattle.ix_index_text.specs.Sections.{postings_section}
use Rattle.ix_file.specs.Tables.{IsListRow, entries_in, entry_in}
use Rattle.ix_file.specs.PlacedTerms.{PlacedTerm}

-- ---- where the lists lie

-- the list of each row begins where that of the row before ends, the first at a place
abbrev pub LieFrom : ℕ → List PlacedTerm → Type 0
LieFrom from [] = Unit {0}
LieFrom from (row ∷ rows) = (row.start ≡ from) × LieFrom (from + row.size) rows

lie_from : (from : ℕ) (rows : List PlacedTerm) → ((n : ℕ) (row : PlacedTerm) → slice_get rows n ≡ Some row → row.start ≡ from + sizes_sum (listings_in (take n rows))) → LieFrom from rows
lie_from from [] each = tt
lie_from from (row ∷ rows) each = (each 0 row refl ∙ omega arith, lie_from (from + row.size) rows (λ n other at. each (suc n) other at ∙ further n))
  where
    further : (n : ℕ) → from + sizes_sum (listings_in (take (suc n) (row ∷ rows))) ≡ from + row.size + sizes_sum (listings_in (take n rows))
    further n = omega (arith, sum_by-cons (λ (listing : Listing). listing.size) (listing_in row) (listings_in (take n rows)))

pub laid_out : (rows : List PlacedTerm) → AreLaidOut rows → LieFrom 0 rows
laid_out rows are = lie_from 0 rows (λ n row at. are n row at ∙ omega arith)

-- each lies in the section where all do
pub lie_within : (section : List ℕ) (from : ℕ) (rows : List PlacedTerm) → LieFrom from rows → from + sizes_sum (listings_in rows) ≤ length section → All (λ row. row.start + row.size ≤ length section) rows
lie_within section from [] lie within = All-nil (λ (row : PlacedTerm). row.start + row.size ≤ length section)
lie_within section from (row ∷ rows) lie within =
    let sum : sizes_sum (listings_in (row ∷ rows)) ≡ row.size + sizes_sum (listings_in rows) = sum_by-cons (λ (listing : Listing). listing.size) (listing_in row) (listings_in rows) in
    All-cons (λ (row : PlacedTerm). row.start + row.size ≤ length section) row rows (omega (arith, sum, lie.0)) (lie_within section (from + row.size) rows lie.1 (omega (arith, sum)))

-- the lists, one behind another
pub lists_joined : (section : List ℕ) (from : ℕ) (rows : List PlacedTerm) → LieFrom from rows → drop from section ≡ flat_map (list_in section) rows ++ drop (from + sizes_sum (listings_in rows)) section
lists_joined section from [] lie = ap (λ n. drop n section) (omega arith)
lists_joined section from (row ∷ rows) lie =
    let sum : sizes_sum (listings_in (row ∷ rows)) ≡ row.size + sizes_sum (listings_in rows) = sum_by-cons (λ (listing : Listing). listing.size) (listing_in row) (listings_in rows) in
    let first : drop from section ≡ list_in section row ++ drop (from + row.size) section =
    drop_split section from (from + row.size) (omega arith) ∙ ap (λ n. slice_range section n (n + row.size) ++ drop (from + row.size) section) (sym lie.0) in
    let rest = lists_joined section (from + row.size) rows lie.1 in
    let end : from + row.size + sizes_sum (listings_in rows) ≡ from + sizes_sum (listings_in (row ∷ rows)) = omega (arith, sum) in
    first ∙ ap (λ bytes. list_in section row ++ bytes) (rest ∙ ap (λ n. flat_map (list_in section) rows ++ drop n section) end)
    ∙ sym (append_assoc (list_in section row) (flat_map (list_in section) rows) (drop (from + sizes_sum (listings_in (row ∷ rows))) section))

pub lists_whole : (section : List ℕ) (rows : List PlacedTerm) → AreLaidOut rows → sizes_sum (listings_in rows) ≡ length section → flat_map (list_in section) rows ≡ section
lists_whole section rows are sum =
    let joined = lists_joined section 0 rows (laid_out rows are) in
    let nothing : drop (0 + sizes_sum (listings_in rows)) section ≡ [] = ap (λ n. drop n section) (omega (arith, sum)) ∙ drop-length section in
    sym (joined ∙ ap (λ bytes. flat_map (list_in section) rows ++ bytes) nothing ∙ append-nil (flat_map (list_in section) rows))

pub length-list_in : (section : List ℕ) (row : PlacedTerm) → row.start + row.size ≤ length section → length (list_in section row) ≡ row.size
length-list_in section row within =
    length-take-le (row.start + row.size - row.start) (drop row.start section) (omega (arith, length-drop row.start section)) ∙ omega arith

-- ---- what they are

-- few documents, and few tokens
pub record AreFew (rows : List DocumentRow) : Type 0 where
  pub documents : length rows ≤ 2 ^ 28
  pub tokens : sum_by (λ row. row.tokens) rows ≤ 2 ^ 28

in_range_small : (rows : List DocumentRow) (number position : ℕ) → AreFew rows → IsInRange rows number position → (number < 2 ^ 28) × (position < 2 ^ 28)
in_range_small rows number position few range =
    let within : number < length rows = slice_get_within rows number range.row range.numbered in
    let there : get_or rows number range.row ≡ range.row = get_or_from_slice_get rows number range.row range.row range.numbered in
    let most : range.row.tokens ≤ sum_by (λ row. row.tokens) rows =
    subst (λ (row : DocumentRow). row.tokens ≤ sum_by (λ (r : DocumentRow). r.tokens) rows) there (get_or-le-sum_by (λ (row : DocumentRow). row.tokens) rows number range.row within) in
    (omega (arith, few.documents), omega (arith, few.tokens, range.below))

pub posting_small : (rows : List DocumentRow) (posting : Posting) → AreFew rows → IsPostingIn rows posting → LiesBelow (2 ^ 32 - 1) posting
posting_small rows posting few is =
    let (first, here) = contains_first posting.1 is.is.0 in
    (omega (arith, (small first here).0), λ k d within. omega (arith, (small (get_or posting.1 k d) (Contains-get_or posting.1 k d within)).1))
  where
    small : (position : ℕ) → Contains posting.1 position → (posting.0 < 2 ^ 28) × (position < 2 ^ 28)
    small position has = in_range_small rows posting.0 position few (is.in_range position has)

pub listed_postings : (rows : List DocumentRow) (count : ℕ) (bytes : List ℕ) (postings : List Posting) → AreFew rows → AreListedIn rows count bytes postings → ArePostings 0 (2 ^ 32 - 1) postings
listed_postings rows count bytes postings few are =
    postings_from (2 ^ 32 - 1) postings are.are.ascending are.are.each (λ k d within. posting_small rows (get_or postings k d) few (are.each k d within))

-- the list of the row is that of the postings of its entry
abbrev pub IsListed : List DocumentRow → List ℕ → PlacedTerm → Type 0
IsListed rows section row = AreListedIn rows row.documents (list_in section row) (entry_in section row).postings

-- the lists of some rows
abbrev pub AreListed : List DocumentRow → List ℕ → List PlacedTerm → List (List Posting) → Type 0
AreListed rows section terms lists = AllZip (λ term postings. AreListedIn rows term.documents (list_in section term) postings) terms lists

told : (rows : List DocumentRow) (section : List ℕ) (row : PlacedTerm) (postings : List Posting) → AreFew rows → AreListedIn rows row.documents (list_in section row) postings → (entry_in section row).postings ≡ postings
told rows section row postings few are = (coded_list row.documents (list_in section row) postings (listed_postings rows row.documents (list_in section row) postings few are) are.counted are.coded).told

pub lists_are : (rows : List DocumentRow) (section : List ℕ) (terms : List PlacedTerm) (lists : List (List Posting)) → AreFew rows → AreListed rows section terms lists → lists_of (entries_in section terms) ≡ lists
lists_are rows section [] [] few are = refl
lists_are rows section [] (list ∷ lists) few are = absurd are
lists_are rows section (term ∷ terms) [] few are = absurd are
lists_are rows section (term ∷ terms) (list ∷ lists) few are =
    ap₂ (λ x xs. x ∷ xs) (told rows section term list few are.0) (lists_are rows section terms lists few are.1)

pub each_listed : (rows : List DocumentRow) (section : List ℕ) (terms : List PlacedTerm) (lists : List (List Posting)) → AreFew rows → AreListed rows section terms lists → All (IsListed rows section) terms
each_listed rows section [] [] few are = All-nil (IsListed rows section)
each_listed rows section [] (list ∷ lists) few are = absurd are
each_listed rows section (term ∷ terms) [] few are = absurd are
each_listed rows section (term ∷ terms) (list ∷ lists) few are =
    All-cons (IsListed rows section) term terms
    (subst (AreListedIn rows term.documents (list_in section term)) (sym (told rows section term list few are.0)) are.0)
    (each_listed rows section terms lists few are.1)

-- the lists may be walked
pub list_row : (rows : List DocumentRow) (section : List ℕ) (row : PlacedTerm) → AreFew rows → IsListed rows section row → row.start + row.size ≤ length section → IsListRow section row
list_row rows section row few are within = record {
  within = within;
  coded = record {
    postings = (entry_in section row).postings;
    are = listed_postings rows row.documents (list_in section row) (entry_in section row).postings few are;
    counted = are.counted;
    coded = are.coded;
  };
}

-- the dictionary lists them as it says
pub entry_listed : (rows : List DocumentRow) (section : List ℕ) (row : PlacedTerm) → IsListed rows section row → row.start + row.size ≤ length section → listing_of (entry_in section row) ≡ listing_in row
entry_listed rows section row are within =
    let with_counts : ℕ → ℕ → Listing = λ documents size. record { term = row.term; documents = documents; size = size } in
    ap₂ with_counts are.counted (ap length (sym are.coded) ∙ length-list_in section row within)

pub entries_listed : (rows : List DocumentRow) (section : List ℕ) (terms : List PlacedTerm) → All (IsListed rows section) terms → All (λ row. row.start + row.size ≤ length section) terms → map listing_of (entries_in section terms) ≡ listings_in terms
entries_listed rows section [] are within = refl
entries_listed rows section (term ∷ terms) are within =
    let Within = λ (row : PlacedTerm). row.start + row.size ≤ length section in
    ap₂ (λ x xs. x ∷ xs) (entry_listed rows section term (All-head (IsListed rows section) term terms are) (All-head Within term terms within))
    (entries_listed rows section terms (All-tail (IsListed rows section) term terms are) (All-tail Within term terms within))

-- they are all of POSTINGS
pub postings_joined : (rows : List DocumentRow) (section : List ℕ) (terms : List PlacedTerm) → All (IsListed rows section) terms → flat_map (list_in section) terms ≡ postings_section (entries_in section terms)
unfolding postings_section
postings_joined rows section [] are = refl
postings_joined rows section (term ∷ terms) are =
    ap₂ (λ xs ys. xs ++ ys) (All-head (IsListed rows section) term terms are).coded (postings_joined rows section terms (All-tail (IsListed rows section) term terms are))

-- no token stands in two
pub entries_distinct : (rows : List DocumentRow) (entries : List DictionaryEntry) (lists : List (List Posting)) → lists_of entries ≡ lists → AreDistinct (flat_map (numbers_of_postings rows) lists) → AreDistinct (numbers_of_entries rows entries)
entries_distinct rows entries lists same distinct =
    subst AreDistinct (ap (λ ls. flat_map (numbers_of_postings rows) ls) (sym same) ∙ flat_map-map (numbers_of_postings rows) (λ (entry : DictionaryEntry). entry.postings) entries) distinct
