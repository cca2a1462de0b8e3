-- DICTIONARY is read listing by listing.
use Rattle.std.proofs.Common.{◌≡◌, ℕ, zero, suc, min, ◌+◌, ◌-◌, ◌^◌, ◌<◌, ◌≤◌, List, [], ◌∷◌, ◌++◌, Some, map, length, take, get_or, slice_get, All, Contains, IsUtf8, string_bytes, refl, sym, ap, ◌∙◌, ap₂, subst, arith}
use Rattle.std.proofs.lemmas.List.{append_assoc, append-nil, map-append, length-map, get_or-map, nil_from_length}
use Rattle.std.proofs.lemmas.List.Elements.{All-cons, All-contains, All-head, All-nil, All-push, All-tail, Contains-push}
use Rattle.std.proofs.lemmas.List.Sums.{sum_by-cons, sum_by-le}
use Rattle.std.proofs.lemmas.Option.{get_or_from_slice_get}
use Rattle.std.specs.Cmp.Lexicographic.{slice_cmp}
use Rattle.std.specs.Ordering.{nat_cmp}
use Rattle.ix_text.specs.ByteOrder.{IsAscending}
use Rattle.ix_text.specs.StopSets.{HasTermSize}
use Rattle.ix_text.specs.Terms.{IsTerm}
use Rattle.ix_vbyte.specs.Code.{code_of}
use Rattle.ix_vbyte.proofs.Values.{code_of-apart}
use Rattle.ix_index_text.specs.Listings.{Listing, listing_bytes, listings_from, listings_section, dictionary_term_bytes, last_listed}
use Rattle.ix_file.specs.ReadListings.{AreListings, HasListedCounts, listing_in, listing_read, listings_in, sizes_sum}
use Rattle.ix_index_text.specs.Sections.{Version}
use Rattle.ix_file.specs.TermReading.{TermMayFollow}
use Rattle.ix_file.specs.PlacedTerms.{PlacedTerm, placed_at, terms_in}
use Rattle.ix_file.specs.declared.open.dictionary.ListedTerm.{ListedTerm}
use Rattle.ix_file.proofs.AscendingLemmas.{ascending_front, ascending_last, ascending_none, ascending_push, last_of, less_from_pair, pair_from_less}
use Rattle.ix_index_text.proofs.ListingsTold.{GoesOn, goes_on, last_from, last_from-listed, listings_from-push, term-apart}
use Rattle.ix_file.proofs.StopReading.{All-front}

-- behind the number of documents stands the length of the list
pub behind_documents : (left behind rest : List ℕ) (documents : ℕ) (listing : Listing) → left ≡ code_of documents ++ behind → left ≡ (code_of listing.documents ++ code_of listing.size) ++ rest
    → (documents ≡ listing.documents) × (behind ≡ code_of listing.size ++ rest)
behind_documents left behind rest documents listing is e =
    code_of-apart documents listing.documents behind (code_of listing.size ++ rest) (sym is ∙ e ∙ append_assoc (code_of listing.documents) (code_of listing.size) rest)

-- behind the term of a listing stand its counts
pub listing_split : (version : Version) (place : ℕ) (before left rest : List ℕ) (listing : Listing) → left ≡ listing_bytes version place before listing ++ rest
    → left ≡ dictionary_term_bytes version place before listing.term ++ ((code_of listing.documents ++ code_of listing.size) ++ rest)
listing_split version place before left rest listing e = e ∙ append_assoc (dictionary_term_bytes version place before listing.term) (code_of listing.documents ++ code_of listing.size) rest

pub behind_term : (version : Version) (place : ℕ) (before left behind rest term : List ℕ) (listing : Listing) → left ≡ dictionary_term_bytes version place before term ++ behind → left ≡ listing_bytes version place before listing ++ rest
    → (term ≡ listing.term) × (behind ≡ (code_of listing.documents ++ code_of listing.size) ++ rest)
behind_term version place before left behind rest term listing is e =
    term-apart version place before term listing.term behind ((code_of listing.documents ++ code_of listing.size) ++ rest) (sym is ∙ listing_split version place before left rest listing e)

-- ---- a term

-- the term that was cut is the one that stands there
pub cut_is : (version : Version) (place : ℕ) (before given left rest more one term : List ℕ) → given ≡ before → left ≡ dictionary_term_bytes version place given one ++ rest → left ≡ dictionary_term_bytes version place before term ++ more → one ≡ term
cut_is version place before given left rest more one term same is e =
    (term-apart version place before one term rest more (sym (is ∙ ap (λ b. dictionary_term_bytes version place b one ++ rest) same) ∙ e)).0

pub from_cut : (cut term : List ℕ) → term ≡ cut → IsUtf8 term → HasTermSize cut → IsTerm term
from_cut cut term is text has = record {
  text = text;
  some_byte = subst (λ (t : List ℕ). 0 < length t) (sym is) has.some_byte;
  short = subst (λ (t : List ℕ). length t ≤ 255) (sym is) has.short;
}

-- ---- listings

abbrev pub term_of : Listing → List ℕ
term_of listing = listing.term

pub no_listings : (stop : List (List ℕ)) → AreListings stop []
no_listings stop = record {
  terms = All-nil (λ (l : Listing). IsTerm l.term);
  ascending = ascending_none;
  unstopped = All-nil (λ (l : Listing). ¬ (Contains stop l.term));
  counts = All-nil HasListedCounts;
}

-- the last term, in the words of the order
last_listed-last_of : (listings : List Listing) → last_listed listings ≡ last_of (map term_of listings)
last_listed-last_of listings = ap (λ n. get_or (map term_of listings) (n - 1) []) (sym (length-map listings term_of))

-- a listing that may follow
pub listings_push : (stop : List (List ℕ)) (listings : List Listing) (listing : Listing) → AreListings stop listings → TermMayFollow stop (last_listed listings) listing.term → HasListedCounts listing → AreListings stop (listings ++ listing ∷ [])
listings_push stop listings listing are may has = record {
  terms = All-push (λ (l : Listing). IsTerm l.term) listings listing are.terms may.is_term;
  ascending =
      subst IsAscending (sym (map-append term_of listings (listing ∷ [])))
      (ascending_push (map term_of listings) listing.term are.ascending
      (λ _. ap (λ text. slice_cmp nat_cmp text listing.term) (sym (last_listed-last_of listings)) ∙ less_from_pair (last_listed listings) listing.term may.above));
  unstopped = All-push (λ (l : Listing). ¬ (Contains stop l.term)) listings listing are.unstopped may.unstopped;
  counts = All-push HasListedCounts listings listing are.counts has;
}

pub listings_front : (stop : List (List ℕ)) (listings more : List Listing) → AreListings stop (listings ++ more) → AreListings stop listings
listings_front stop listings more are = record {
  terms = All-front (λ (l : Listing). IsTerm l.term) listings more are.terms;
  ascending = ascending_front (map term_of listings) (map term_of more) (subst IsAscending (map-append term_of listings more) are.ascending);
  unstopped = All-front (λ (l : Listing). ¬ (Contains stop l.term)) listings more are.unstopped;
  counts = All-front HasListedCounts listings more are.counts;
}

-- some text stands above the empty one
above_nothing : (term : List ℕ) → 0 < length term → IsAscending ([] ∷ term ∷ [])
above_nothing [] some = absurd (omega arith)
above_nothing (x ∷ xs) some = pair_from_less [] (x ∷ xs) refl

above_last : (listings : List Listing) (listing : Listing) → IsAscending (map term_of listings ++ listing.term ∷ []) → 0 < length listing.term → IsAscending (last_listed listings ∷ listing.term ∷ [])
above_last [] listing is some = above_nothing listing.term some
above_last (x ∷ xs) listing is some =
    pair_from_less (last_listed (x ∷ xs)) listing.term
    (ap (λ text. slice_cmp nat_cmp text listing.term) (last_listed-last_of (x ∷ xs)) ∙ ascending_last (map term_of (x ∷ xs)) listing.term is (omega arith))

-- what the next listing keeps
pub next_listing : (stop : List (List ℕ)) (listings : List Listing) (listing : Listing) → AreListings stop (listings ++ listing ∷ []) → TermMayFollow stop (last_listed listings) listing.term × HasListedCounts listing
next_listing stop listings listing are =
    let among = Contains-push listings listing in
    let is_term : IsTerm listing.term = All-contains (λ (l : Listing). IsTerm l.term) (listings ++ listing ∷ []) listing are.terms among in (
      record {
        is_term = is_term;
        above = above_last listings listing (subst IsAscending (map-append term_of listings (listing ∷ [])) are.ascending) is_term.some_byte;
        unstopped = All-contains (λ (l : Listing). ¬ (Contains stop l.term)) (listings ++ listing ∷ []) listing are.unstopped among;
      },
      All-contains HasListedCounts (listings ++ listing ∷ []) listing are.counts among,
    )

-- the last term is short
pub last_short : (stop : List (List ℕ)) (listings : List Listing) → AreListings stop listings → length (last_listed listings) ≤ 255
last_short stop [] are = omega arith
last_short stop (x ∷ xs) are =
    let last = length (x ∷ xs) - 1 in
    let is_term : IsTerm (get_or (x ∷ xs) last x).term = are.terms last x (omega arith) in
    let short : length (get_or (x ∷ xs) last x).term ≤ 255 = is_term.short in
    subst (λ (text : List ℕ). length text ≤ 255) (sym (get_or-map term_of (x ∷ xs) last x [] (omega arith))) short

-- ---- the section

pub listings_of_none : (version : Version) (section : List ℕ) → section ≡ listings_section version [] ++ section
unfolding listings_section
listings_of_none version section = refl

pub listings_more : (version : Version) (section : List ℕ) (done : List Listing) (listing : Listing) (left rest : List ℕ) → section ≡ listings_section version done ++ left → left ≡ listing_bytes version (length done) (last_listed done) listing ++ rest → section ≡ listings_section version (done ++ listing ∷ []) ++ rest
unfolding listings_section
listings_more version section done listing left rest e is =
    let before = listings_from version 0 [] done in
    let piece = listing_bytes version (length done) (last_listed done) listing in
    let place : 0 + length done ≡ length done = omega arith in
    let pushed : listings_from version 0 [] (done ++ listing ∷ []) ≡ before ++ piece =
    listings_from-push version 0 [] done listing ∙ ap₂ (λ n b. before ++ listing_bytes version n b listing) place (last_from-listed done) in
    e ∙ ap (λ bytes. before ++ bytes) is ∙ sym (append_assoc before piece rest) ∙ ap (λ bytes. bytes ++ rest) (sym pushed)

pub listings_all : (version : Version) (section : List ℕ) (done : List Listing) (left : List ℕ) → section ≡ listings_section version done ++ left → length left ≡ 0 → section ≡ listings_section version done
listings_all version section done left e none =
    e ∙ ap (λ bytes. listings_section version done ++ bytes) (nil_from_length left none) ∙ append-nil (listings_section version done)

-- where no listing may follow those that were read, the section is that of none
pub none_next : (version : Version) (stop : List (List ℕ)) (section : List ℕ) (done : List Listing) (left : List ℕ) → section ≡ listings_section version done ++ left → 0 < length left
    → ((listing : Listing) (rest : List ℕ) → TermMayFollow stop (last_listed done) listing.term → HasListedCounts listing → left ≡ listing_bytes version (length done) (last_listed done) listing ++ rest → ⊥)
    → (listings : List Listing) → AreListings stop listings → section ≡ listings_section version listings → ⊥
unfolding listings_section
none_next version stop section done left e some refused listings are same = at (goes_on version 0 [] done listings left (sym same ∙ e))
  where
    at_more : (more : List Listing) → listings ≡ done ++ more → left ≡ listings_from version (0 + length done) (last_from [] done) more → ⊥
    at_more [] whole rest = omega (arith, some, ap length rest)
    at_more (next ∷ more) whole rest =
        let front = listings_front stop (done ++ next ∷ []) more (subst (AreListings stop) (whole ∙ sym (append_assoc done (next ∷ []) more)) are) in
        let may = next_listing stop done next front in
        let place : 0 + length done ≡ length done = omega arith in
        refused next (listings_from version (length done + 1) next.term more) may.0 may.1
        (rest ∙ ap₂ (λ n b. listing_bytes version n b next ++ listings_from version (n + 1) next.term more) place (last_from-listed done))

    at : GoesOn version 0 [] done listings left → ⊥
    at g = at_more g.more g.whole g.rest

-- the listings of one term more
pub listing_pushed : (old : List PlacedTerm) (read : ListedTerm) (text : List ℕ) (start : ℕ) (new : List PlacedTerm) → new ≡ old ++ placed_at text (record { start = start; size = read.size; documents = read.documents }) ∷ [] → text ≡ string_bytes read.term
    → listings_in new ≡ listings_in old ++ listing_read read ∷ []
listing_pushed old read text start new pushed same =
    let added : PlacedTerm = placed_at text (record { start = start; size = read.size; documents = read.documents }) in
    ap listings_in pushed ∙ map-append listing_in old (added ∷ [])
    ∙ ap (λ (t : List ℕ). listings_in old ++ record { term = t; documents = read.documents; size = read.size } ∷ []) same

terms_listed : (terms : List PlacedTerm) → map term_of (listings_in terms) ≡ terms_in terms
terms_listed [] = refl
terms_listed (term ∷ terms) = ap (λ (ts : List (List ℕ)). term.term ∷ ts) (terms_listed terms)

-- the terms of listings are text
pub texts_listed : (terms : List PlacedTerm) → All (λ (l : Listing). IsTerm l.term) (listings_in terms) → All IsUtf8 (terms_in terms)
texts_listed [] all = All-nil IsUtf8
texts_listed (term ∷ terms) all =
    let head = All-head (λ (l : Listing). IsTerm l.term) (listing_in term) (listings_in terms) all in
    All-cons IsUtf8 term.term (terms_in terms) head.text (texts_listed terms (All-tail (λ (l : Listing). IsTerm l.term) (listing_in term) (listings_in terms) all))

-- the last text
pub last_text_is : (terms : List PlacedTerm) (text : List ℕ) (count : ℕ) → count ≡ length terms → slice_get (terms_in terms) (count - 1) ≡ Some text → text ≡ last_listed (listings_in terms)
last_text_is terms text count sized is =
    let same : map term_of (listings_in terms) ≡ terms_in terms = terms_listed terms in
    let last : count - 1 ≡ length (listings_in terms) - 1 = omega (arith, sized, length-map terms listing_in) in
    sym (get_or_from_slice_get (terms_in terms) (count - 1) text [] is) ∙ ap (λ (ts : List (List ℕ)). get_or ts (count - 1) []) (sym same)
    ∙ ap (λ (n : ℕ). get_or (map term_of (listings_in terms)) n []) last

-- ---- where the lists stand

-- the largest sum that is kept
abbrev pub most : ℕ
most = 2 ^ 64 - 1

-- each list begins where those before it end, from a place on, as far as a number goes
abbrev pub LieFrom : ℕ → List PlacedTerm → Type 0
LieFrom from [] = Unit {0}
LieFrom from (row ∷ rows) = (row.start ≡ min from most) × LieFrom (from + row.size) rows

pub lie_push : (from : ℕ) (rows : List PlacedTerm) (row : PlacedTerm) → LieFrom from rows → row.start ≡ min (from + sizes_sum (listings_in rows)) most → LieFrom from (rows ++ row ∷ [])
lie_push from [] row lie at =
    let same : from + 0 ≡ from = omega arith in
    (at ∙ ap (λ n. min n most) same, tt)
lie_push from (r ∷ rs) row lie at =
    let next : from + sizes_sum (listings_in (r ∷ rs)) ≡ from + r.size + sizes_sum (listings_in rs) = omega (arith, sum_by-cons (λ (l : Listing). l.size) (listing_in r) (listings_in rs)) in
    (lie.0, lie_push (from + r.size) rs row lie.1 (at ∙ ap (λ n. min n most) next))

kept : (n : ℕ) → n ≤ most → min n most ≡ n
kept n small = omega arith

pub lie_at : (from : ℕ) (rows : List PlacedTerm) (n : ℕ) (row : PlacedTerm) → LieFrom from rows → from + sizes_sum (listings_in rows) ≤ most → slice_get rows n ≡ Some row → row.start ≡ from + sizes_sum (listings_in (take n rows))
lie_at from [] n row lie small is = absurd (cc)
lie_at from (r ∷ rs) zero row lie small is =
    let same : row ≡ r = cc in
    let none : from ≡ from + 0 = omega arith in
    ap (λ (q : PlacedTerm). q.start) same ∙ lie.0 ∙ kept from (omega arith) ∙ none
lie_at from (r ∷ rs) (suc n) row lie small is =
    let whole = sum_by-cons (λ (l : Listing). l.size) (listing_in r) (listings_in rs) in
    let front = sum_by-cons (λ (l : Listing). l.size) (listing_in r) (listings_in (take n rs)) in
    let rest = lie_at (from + r.size) rs n row lie.1 (omega (arith, small, whole)) is in
    omega (arith, rest, front)

-- fewer than 2^32 lists have a sum that is kept
pub sum_small : (listings : List Listing) → All HasListedCounts listings → length listings < 2 ^ 32 → sizes_sum listings ≤ most
sum_small listings has few =
    let each : All (λ (l : Listing). l.size ≤ 2 ^ 32 - 1) listings = λ k d h. let small : (get_or listings k d).size < 2 ^ 32 = (has k d h).size in omega arith in
    omega (arith, few, sum_by-le (λ (l : Listing). l.size) (2 ^ 32 - 1) listings each)
