-- How a scan of a dictionary goes on.
use Rattle.std.proofs.Common.{◌≡◌, ℕ, ◌+◌, ◌<◌, ◌≤◌, List, [], ◌∷◌, ◌++◌, length, map, take, drop, All, refl, sym, ap, ◌∙◌, subst, inl, inr, ◌⊎◌, ◌↔◌, ◌-◌, ◌≢◌, Option, Some, arith, length-append, length-drop}
use Rattle.std.proofs.lemmas.List.{append_assoc, append-nil, map-append}
use Rattle.std.proofs.lemmas.List.Elements.{All-cons, All-head, All-tail, All-push}
use Rattle.std.proofs.lemmas.List.Sums.{sum_by-cons}
use Rattle.std.proofs.lemmas.Map.Keys.{sorted_tail}
use Rattle.std.proofs.lemmas.Map.Views.{All-after_first}
use Rattle.std.specs.Cmp.Lexicographic.{slice_cmp}
use Rattle.std.specs.Ordering.{nat_cmp}
use Rattle.ix_text.specs.ByteOrder.{IsAscending}
use Rattle.ix_text.specs.Terms.{IsTerm}
use Rattle.ix_index_text.specs.Listings.{Listing, listing_bytes, listings_from, listings_section}
use Rattle.ix_index_text.specs.Sections.{Version}
use Rattle.ix_lookup.specs.Dictionaries.{AreFoundAt, IsNoDictionary, section_of}
use Rattle.ix_lookup.specs.FoundTerms.{PlacedListing, AreFound, HasAtMostOneMore, IsNoted, placed_of}
use Rattle.ix_lookup.specs.Listed.{IsReadable, IsOfListings, sizes_sum}
use Rattle.ix_lookup.specs.Pieces.{HasRow, left_in, rest_in, unread_in}
use Rattle.ix_lookup.specs.Rows.{IsRowRead}
use Rattle.ix_lookup.specs.TermOrder.{IsBelow}
use Rattle.ix_lookup.specs.Versions.{version_in}
use Rattle.ix_lookup.specs.declared.dictionary.Dictionary.{Dictionary}
use Rattle.ix_lookup.specs.declared.found_term.FoundTerm.{FoundTerm}
use Rattle.ix_lookup.specs.declared.pieces.Pieces.{Pieces}
use Rattle.ix_lookup.specs.declared.pieces.TheConstants.{ROW_BYTES}
use Rattle.ix_lookup.specs.declared.row.Row.{Row}
use Rattle.ix_lookup.proofs.PieceLemmas.{IsRowIn, row_in, row_size}

-- Of these listings the scan has others before it, from a place on, whose lists begin at `start`: what was found is that
-- of those behind it, and goes on with what is found of the others.
pub record GoesOn (version : Version) (wants is_at : List ℕ → Type 0) (listings : List Listing) (count postings place start : ℕ) (left : List ℕ) (found : List PlacedListing) : Type 0 where
  pub before : List ℕ
  pub others : List Listing
  pub at : is_at before
  pub short : length before ≤ 255
  pub readable : All IsReadable others
  pub above : All (IsBelow before) (map (λ listing. listing.term) others)
  pub ascending : IsAscending (map (λ listing. listing.term) others)
  pub counted : place + length others ≡ count
  pub sized : start + sizes_sum others ≡ postings
  pub spelled : left ≡ listings_from version place before others
  pub so_far : (more : List PlacedListing) → AreFound wants start others more → AreFound wants 0 listings (found ++ more)

-- The same, if there is one more: it is next.
pub record HasNext (version : Version) (wants is_at : List ℕ → Type 0) (listings : List Listing) (count postings place start : ℕ) (left : List ℕ) (found : List PlacedListing) : Type 0 where
  pub before : List ℕ
  pub listing : Listing
  pub others : List Listing
  pub at : is_at before
  pub short : length before ≤ 255
  pub readable : IsReadable listing
  pub readable_others : All IsReadable others
  pub above : IsBelow before listing.term
  pub ascending : IsAscending (map (λ listing. listing.term) (listing ∷ others))
  pub counted : place + 1 + length others ≡ count
  pub sized : start + listing.size + sizes_sum others ≡ postings
  pub spelled : left ≡ listing_bytes version place before listing ++ listings_from version (place + 1) listing.term others
  pub so_far : (more : List PlacedListing) → AreFound wants start (listing ∷ others) more → AreFound wants 0 listings (found ++ more)

-- each term is above the empty text
above_none : (listings : List Listing) → All IsReadable listings → All (IsBelow []) (map (λ listing. listing.term) listings)
above_none [] readable = λ k d h. absurd (omega arith)
above_none (listing ∷ listings) readable =
    All-cons (IsBelow []) listing.term (map (λ (l : Listing). l.term) listings) (above_empty listing.term (All-head IsReadable listing listings readable).term.some_byte) (above_none listings (All-tail IsReadable listing listings readable))
  where
    above_empty : (term : List ℕ) → 0 < length term → IsBelow [] term
    above_empty [] some = absurd (omega arith)
    above_empty (x ∷ xs) some = refl

module _ (version : Version) (wants : List ℕ → Type 0) (listings : List Listing) (count postings : ℕ) where
  -- before the first listing
  pub begins : (is_at : List ℕ → Type 0) (section : List ℕ) → is_at [] → IsOfListings version section count postings listings → GoesOn version wants is_at listings count postings 0 0 section []
  unfolding listings_section
  begins is_at section at is = record {
    before = [];
    others = listings;
    at = at;
    short = omega arith;
    readable = is.readable;
    above = above_none listings is.readable;
    ascending = is.ascending;
    counted = omega (arith, is.counted);
    sized = omega (arith, is.sized);
    spelled = is.spelled;
    so_far = λ more found. found;
  }

  module _ (is_at : List ℕ → Type 0) (place start : ℕ) (left : List ℕ) (found : List PlacedListing) where
    -- a listing is next
    pub next : GoesOn version wants is_at listings count postings place start left found → place < count → HasNext version wants is_at listings count postings place start left found
    next on below = split on.others on.readable on.above on.ascending on.counted on.sized on.spelled on.so_far
      where
        split : (others : List Listing) → All IsReadable others → All (IsBelow on.before) (map (λ (listing : Listing). listing.term) others) → IsAscending (map (λ (listing : Listing). listing.term) others) → place + length others ≡ count → start + sizes_sum others ≡ postings
            → left ≡ listings_from version place on.before others → ((more : List PlacedListing) → AreFound wants start others more → AreFound wants 0 listings (found ++ more))
            → HasNext version wants is_at listings count postings place start left found
        split [] readable above ascending counted sized spelled so_far = absurd (omega arith)
        split (listing ∷ others) readable above ascending counted sized spelled so_far = record {
          before = on.before;
          listing = listing;
          others = others;
          at = on.at;
          short = on.short;
          readable = All-head IsReadable listing others readable;
          readable_others = All-tail IsReadable listing others readable;
          above = All-head (IsBelow on.before) listing.term (map (λ (l : Listing). l.term) others) above;
          ascending = ascending;
          counted = omega arith;
          sized = omega (arith, sum_by-cons (λ (l : Listing). l.size) listing others);
          spelled = spelled;
          so_far = so_far;
        }

    -- nothing is left behind the last listing
    pub record IsAtEnd : Type 0 where
      pub empty : left ≡ []
      pub whole : start ≡ postings
      pub found_all : AreFound wants 0 listings found

    pub ends : GoesOn version wants is_at listings count postings place start left found → place ≡ count → IsAtEnd
    ends on last = split on.others on.counted on.sized on.spelled on.so_far
      where
        split : (others : List Listing) → place + length others ≡ count → start + sizes_sum others ≡ postings → left ≡ listings_from version place on.before others
            → ((more : List PlacedListing) → AreFound wants start others more → AreFound wants 0 listings (found ++ more)) → IsAtEnd
        split [] counted sized spelled so_far = record { empty = spelled; whole = omega arith; found_all = subst (AreFound wants 0 listings) (append-nil found) (so_far [] refl) }
        split (listing ∷ others) counted sized spelled so_far = absurd (omega arith)

    module _ (is_next : List ℕ → Type 0) (has : HasNext version wants is_at listings count postings place start left found) (row : Row) (rest : List ℕ) (read : IsRowRead has.before has.listing rest row)
        (behind : List ℕ) (is_behind : behind ≡ listings_from version (place + 1) has.listing.term has.others) (at : is_next (take row.shared has.before ++ row.own.now)) where
      -- the listing is not looked for
      pub passes : ¬ (wants has.listing.term) → GoesOn version wants is_next listings count postings (place + 1) (start + row.size) behind found
      passes unwanted = record {
        before = has.listing.term;
        others = has.others;
        at = subst is_next (sym read.term) at;
        short = has.readable.term.short;
        readable = has.readable_others;
        above = All-after_first (slice_cmp nat_cmp) has.listing.term (map (λ (l : Listing). l.term) has.others) has.ascending;
        ascending = sorted_tail (slice_cmp nat_cmp) has.listing.term (map (λ (l : Listing). l.term) has.others) has.ascending;
        counted = has.counted;
        sized = omega (arith, has.sized, read.size);
        spelled = is_behind;
        so_far = λ more are. has.so_far more (inr (unwanted, subst (λ n. AreFound wants (start + n) has.others more) read.size are));
      }

      -- the listing is looked for
      pub gains : (one : PlacedListing) → wants has.listing.term → one ≡ record { listing = has.listing; start = start } → GoesOn version wants is_next listings count postings (place + 1) (start + row.size) behind (found ++ one ∷ [])
      gains one wanted same = record {
        before = has.listing.term;
        others = has.others;
        at = subst is_next (sym read.term) at;
        short = has.readable.term.short;
        readable = has.readable_others;
        above = All-after_first (slice_cmp nat_cmp) has.listing.term (map (λ (l : Listing). l.term) has.others) has.ascending;
        ascending = sorted_tail (slice_cmp nat_cmp) has.listing.term (map (λ (l : Listing). l.term) has.others) has.ascending;
        counted = has.counted;
        sized = omega (arith, has.sized, read.size);
        spelled = is_behind;
        so_far = λ more are. subst (AreFound wants 0 listings) (sym (append_assoc found (one ∷ []) more))
            (has.so_far (one ∷ more) (inl (wanted, (more, ap (λ first. first ∷ more) same, subst (λ n. AreFound wants (start + n) has.others more) read.size are))));
      }

-- no listing of terms that are not looked for is found
pub none_found : (wants : List ℕ → Type 0) (term : List ℕ) (start : ℕ) (others : List Listing) → All (IsBelow term) (map (λ listing. listing.term) others) → ((later : List ℕ) → IsBelow term later → ¬ (wants later)) → AreFound wants start others []
none_found wants term start [] above none = refl
none_found wants term start (listing ∷ others) above none =
    let terms = map (λ (l : Listing). l.term) others in
    inr (none listing.term (All-head (IsBelow term) listing.term terms above), none_found wants term (start + listing.size) others (All-tail (IsBelow term) listing.term terms above) none)

-- what was added is the listing
same_placed : (term : List ℕ) (documents size : ℕ) (listing : Listing) (start : ℕ) → term ≡ listing.term → documents ≡ listing.documents → size ≡ listing.size
    → (let one : PlacedListing = record { listing = record { term = term; documents = documents; size = size }; start = start } in one) ≡ record { listing = listing; start = start }
same_placed term documents size listing start terms counts sizes =
    let with_term : List ℕ → PlacedListing = λ t. record { listing = record { term = t; documents = documents; size = size }; start = start } in
    let with_documents : ℕ → PlacedListing = λ n. record { listing = record { term = listing.term; documents = n; size = size }; start = start } in
    let with_size : ℕ → PlacedListing = λ n. record { listing = record { term = listing.term; documents = listing.documents; size = n }; start = start } in
    ap with_term terms ∙ ap with_documents counts ∙ ap with_size sizes

-- ---- the loop

-- the section is the dictionary of these listings
abbrev pub IsListed : Dictionary → List ℕ → List Listing → Type 0
IsListed dictionary bytes listings =
    IsOfListings (version_in dictionary.version) (section_of dictionary bytes) dictionary.terms dictionary.postings listings

abbrev pub GoesOnIn : Dictionary → (List ℕ → Type 0) → (List ℕ → Type 0) → List Listing → ℕ → ℕ → List ℕ → List PlacedListing → Type 0
GoesOnIn dictionary wants is_at listings place start left found =
    GoesOn (version_in dictionary.version) wants is_at listings dictionary.terms dictionary.postings place start left found

-- What a scan has found before a place.
pub record IsScanned (dictionary : Dictionary) (contents : Option (List ℕ)) (wants wants_now is_at : List ℕ → Type 0) (place start : ℕ) (pieces : Pieces) (found : List FoundTerm) : Type 0 where
  pub same : (term : List ℕ) → wants_now term ↔ wants term
  pub on : (bytes : List ℕ) → contents ≡ Some bytes → (listings : List Listing) → IsListed dictionary bytes listings
      → GoesOnIn dictionary wants is_at listings place start (left_in pieces bytes) (map placed_of found)
  pub within : All (λ one. one.start + one.size ≤ dictionary.postings) found
  pub few : length found ≤ place
  pub start_within : start ≤ dictionary.postings

-- what reading a row gives
abbrev pub ReadsRow : Version → ℕ → List ℕ → (List ℕ → Listing → List ℕ → Type 0) → Type 0
ReadsRow version place left reads =
    (before : List ℕ) (listing : Listing) (rest : List ℕ) → length before ≤ 255 → IsReadable listing → left ≡ listing_bytes version place before listing ++ rest → reads before listing rest

-- a row is behind the one that was read, and the rest of the piece is there
pub record IsBehind (row : Row) (pieces next : Pieces) : Type 0 where
  pub rest : rest_in next ≡ drop (length (rest_in pieces) - length row.rest.now) (rest_in pieces)
  pub unread : next.unread ≡ pieces.unread
  pub start : next.start ≡ pieces.start

left_behind : (row : Row) (pieces behind : Pieces) (bytes row_bytes rest : List ℕ) → IsBehind row pieces behind → row.rest.now ≡ rest → rest ≡ drop (length row_bytes) (rest_in pieces) → length row_bytes ≤ length (rest_in pieces)
    → left_in behind bytes ≡ drop (length row_bytes) (rest_in pieces) ++ unread_in pieces bytes
left_behind row pieces behind bytes row_bytes rest is read is_rest within =
    let whole = rest_in pieces in
    let n = length row_bytes in
    let size : length row.rest.now ≡ length whole - n = ap length (read ∙ is_rest) ∙ length-drop n whole in
    let place : length whole - length row.rest.now ≡ n = omega arith in
    let unread : unread_in behind bytes ≡ unread_in pieces bytes =
    ap (λ k. take k (drop behind.start bytes)) is.unread ∙ ap (λ k. take pieces.unread (drop k bytes)) is.start in
    ap (λ xs. xs ++ unread_in behind bytes) (is.rest ∙ ap (λ k. drop k whole) place) ∙ ap (λ xs. drop n whole ++ xs) unread

front_empty : (xs ys : List ℕ) → xs ++ ys ≡ [] → xs ≡ []
front_empty [] ys e = refl
front_empty (x ∷ xs) ys e = cc

module _ (dictionary : Dictionary) (contents : Option (List ℕ)) (wants : List ℕ → Type 0) where
  pub scan_begins : (is_at : List ℕ → Type 0) (pieces : Pieces) → is_at [] → ((bytes : List ℕ) → left_in pieces bytes ≡ section_of dictionary bytes) → IsScanned dictionary contents wants wants is_at 0 0 pieces []
  scan_begins is_at pieces at whole = record {
    same = λ term. (λ w. w, λ w. w);
    on = λ bytes told listings is. subst (λ left. GoesOnIn dictionary wants is_at listings 0 0 left []) (sym (whole bytes))
        (begins (version_in dictionary.version) wants listings dictionary.terms dictionary.postings is_at (section_of dictionary bytes) at is);
    within = λ k d h. absurd (omega arith);
    few = omega arith;
    start_within = omega arith;
  }

  module _ (wants_now is_at : List ℕ → Type 0) (place start : ℕ) (pieces : Pieces) (found : List FoundTerm) (scanned : IsScanned dictionary contents wants wants_now is_at place start pieces found) where
    -- more of the section was read
    pub scan_reads_on : (next : Pieces) → ((bytes : List ℕ) → contents ≡ Some bytes → left_in next bytes ≡ left_in pieces bytes) → IsScanned dictionary contents wants wants_now is_at place start next found
    scan_reads_on next same = record {
      same = scanned.same;
      on = λ bytes told listings is. subst (λ left. GoesOnIn dictionary wants is_at listings place start left (map placed_of found)) (sym (same bytes told)) (scanned.on bytes told listings is);
      within = scanned.within;
      few = scanned.few;
      start_within = scanned.start_within;
    }

    -- the next listing, whose row is in the piece
    pub record HasNextIn (bytes : List ℕ) (listings : List Listing) : Type 0 where
      pub has : HasNext (version_in dictionary.version) wants is_at listings dictionary.terms dictionary.postings place start (left_in pieces bytes) (map placed_of found)
      pub row : IsRowIn (rest_in pieces) (unread_in pieces bytes) (listing_bytes (version_in dictionary.version) place has.before has.listing) (listings_from (version_in dictionary.version) (place + 1) has.listing.term has.others)

    next_in : place < dictionary.terms → HasRow pieces → (bytes : List ℕ) → contents ≡ Some bytes → (listings : List Listing) → IsListed dictionary bytes listings → HasNextIn bytes listings
    next_in below has_row bytes told listings is =
        let has = next (version_in dictionary.version) wants listings dictionary.terms dictionary.postings is_at place start (left_in pieces bytes) (map placed_of found) (scanned.on bytes told listings is) below in
        let few = row_size (version_in dictionary.version) place has.before has.listing has.short has.readable in
        record {
          has = has;
          row = row_in (rest_in pieces) (unread_in pieces bytes) (listing_bytes (version_in dictionary.version) place has.before has.listing) (listings_from (version_in dictionary.version) (place + 1) has.listing.term has.others) has.spelled (enough bytes few has_row);
        }
      where
        enough : (bytes : List ℕ) {size : ℕ} → size ≤ ROW_BYTES → HasRow pieces → (size ≤ length (rest_in pieces)) ⊎ (unread_in pieces bytes ≡ [])
        enough bytes few (inl room) = inl (omega arith)
        enough bytes few (inr none) = inr (ap (λ n. take n (drop pieces.start bytes)) none)

    -- no row is there
    pub no_row : (left : List ℕ) → place < dictionary.terms → HasRow pieces → left ≡ rest_in pieces → ReadsRow (version_in dictionary.version) place left (λ before listing rest. ⊥) → (bytes : List ℕ) → contents ≡ Some bytes → IsNoDictionary dictionary bytes
    no_row left below has_row is_left reads bytes told listings is =
        let in_piece = next_in below has_row bytes told listings is in
        reads in_piece.has.before in_piece.has.listing _ in_piece.has.short in_piece.has.readable (is_left ∙ in_piece.row.whole)

    -- its list is too long
    pub long_list : (left : List ℕ) (row : Row) → place < dictionary.terms → HasRow pieces → left ≡ rest_in pieces → ReadsRow (version_in dictionary.version) place left (λ before listing rest. IsRowRead before listing rest row) → dictionary.postings - start < row.size
        → (bytes : List ℕ) → contents ≡ Some bytes → IsNoDictionary dictionary bytes
    long_list left row below has_row is_left reads long bytes told listings is =
        let in_piece = next_in below has_row bytes told listings is in
        let read = reads in_piece.has.before in_piece.has.listing _ in_piece.has.short in_piece.has.readable (is_left ∙ in_piece.row.whole) in
        omega (arith, in_piece.has.sized, read.size)

    ended : dictionary.terms ≤ place → place ≤ dictionary.terms → (bytes : List ℕ) → contents ≡ Some bytes → (listings : List Listing) → IsListed dictionary bytes listings
        → IsAtEnd (version_in dictionary.version) wants listings dictionary.terms dictionary.postings is_at place start (left_in pieces bytes) (map placed_of found)
    ended above below bytes told listings is =
        ends (version_in dictionary.version) wants listings dictionary.terms dictionary.postings is_at place start (left_in pieces bytes) (map placed_of found) (scanned.on bytes told listings is) (omega arith)

    -- something is left behind the last row, or the lists are too short
    pub wrong_end : dictionary.terms ≤ place → place ≤ dictionary.terms → (rest_in pieces ≢ []) ⊎ (start ≢ dictionary.postings) → (bytes : List ℕ) → contents ≡ Some bytes → IsNoDictionary dictionary bytes
    wrong_end above below wrong bytes told listings is =
        let end = ended above below bytes told listings is in
        elim wrong [ inl some ↦ some (front_empty (rest_in pieces) (unread_in pieces bytes) end.empty) | inr short ↦ short end.whole ]

    pub found_all : dictionary.terms ≤ place → place ≤ dictionary.terms → (bytes : List ℕ) → contents ≡ Some bytes → AreFoundAt dictionary bytes wants found
    found_all above below bytes told listings is = let end = ended above below bytes told listings is in end.found_all

    -- no later term is looked for
    pub found_before : ((term later : List ℕ) → is_at term → IsBelow term later → ¬ (wants_now later)) → (bytes : List ℕ) → contents ≡ Some bytes → AreFoundAt dictionary bytes wants found
    found_before past bytes told listings is =
        let on = scanned.on bytes told listings is in
        subst (AreFound wants 0 listings) (append-nil (map placed_of found))
        (on.so_far [] (none_found wants on.before start on.others on.above (λ later above wanted. past on.before later on.at above ((scanned.same later).1 wanted))))

    module _ (row : Row) (wants_next is_next : List ℕ → Type 0) (more : List FoundTerm) where
      -- one more row
      pub scan_goes_on : (left : List ℕ) (behind : Pieces) → IsBehind row pieces behind → place < dictionary.terms → HasRow pieces → left ≡ rest_in pieces → ReadsRow (version_in dictionary.version) place left (λ before listing rest. IsRowRead before listing rest row)
          → row.size ≤ dictionary.postings - start
          → ((term : List ℕ) → wants_next term ↔ wants_now term)
          → ((before : List ℕ) → is_at before → row.shared ≤ length before → IsBelow before (take row.shared before ++ row.own.now) → is_next (take row.shared before ++ row.own.now))
          → ((before : List ℕ) → is_at before → row.shared ≤ length before → IsBelow before (take row.shared before ++ row.own.now) → IsTerm (take row.shared before ++ row.own.now) → IsNoted wants_now (take row.shared before ++ row.own.now) row.documents start row.size found more)
          → HasAtMostOneMore row.documents start row.size found more
          → IsScanned dictionary contents wants wants_next is_next (place + 1) (start + row.size) behind more
      scan_goes_on left behind is_behind below has_row is_left reads fits same moved noted kept = record {
        same = λ term. (λ w. (scanned.same term).0 ((same term).0 w), λ w. (same term).1 ((scanned.same term).1 w));
        on = λ bytes told listings is. on_after bytes listings (next_in below has_row bytes told listings is);
        within = within_after kept;
        few = few_after kept;
        start_within = omega (arith, scanned.start_within, fits);
      }
        where
          on_after : (bytes : List ℕ) (listings : List Listing) → HasNextIn bytes listings → GoesOnIn dictionary wants is_next listings (place + 1) (start + row.size) (left_in behind bytes) (map placed_of more)
          on_after bytes listings in_piece =
              with_row _ (reads in_piece.has.before in_piece.has.listing _ in_piece.has.short in_piece.has.readable (is_left ∙ in_piece.row.whole)) refl
            where
              with_row : (rest : List ℕ) → IsRowRead in_piece.has.before in_piece.has.listing rest row → rest ≡ drop (length (listing_bytes (version_in dictionary.version) place in_piece.has.before in_piece.has.listing)) (rest_in pieces)
                  → GoesOnIn dictionary wants is_next listings (place + 1) (start + row.size) (left_in behind bytes) (map placed_of more)
              with_row rest read is_rest =
                  let has = in_piece.has in
                  let row_bytes = listing_bytes (version_in dictionary.version) place has.before has.listing in
                  let term = take row.shared has.before ++ row.own.now in
                  let above = subst (IsBelow has.before) read.term has.above in
                  let at = moved has.before has.at read.within above in
                  let spelled = left_behind row pieces behind bytes row_bytes rest is_behind read.others is_rest in_piece.row.within ∙ in_piece.row.behind in
                  elim (noted has.before has.at read.within above (subst IsTerm read.term has.readable.term)) [
                    | inl add ↦
                        let one = placed_of add.1.one in
                        let wanted : wants has.listing.term = subst wants (sym read.term) ((scanned.same term).0 add.0) in
                        let placed : one ≡ record { listing = has.listing; start = start } =
                        add.1.placed ∙ same_placed term row.documents row.size has.listing start (sym read.term) read.documents read.size in
                        subst (λ fs. GoesOnIn dictionary wants is_next listings (place + 1) (start + row.size) (left_in behind bytes) fs) (sym (ap (map placed_of) add.1.pushed ∙ map-append placed_of found (add.1.one ∷ [])))
                        (gains (version_in dictionary.version) wants listings dictionary.terms dictionary.postings is_at place start (left_in pieces bytes) (map placed_of found) is_next has row rest read (left_in behind bytes) spelled at one wanted placed)
                    | inr none ↦
                        let unwanted : ¬ (wants has.listing.term) = λ wanted. none.0 ((scanned.same term).1 (subst wants read.term wanted)) in
                        subst (λ fs. GoesOnIn dictionary wants is_next listings (place + 1) (start + row.size) (left_in behind bytes) fs) (sym (ap (map placed_of) none.1))
                        (passes (version_in dictionary.version) wants listings dictionary.terms dictionary.postings is_at place start (left_in pieces bytes) (map placed_of found) is_next has row rest read (left_in behind bytes) spelled at unwanted)
                  ]

          within_after : HasAtMostOneMore row.documents start row.size found more → All (λ (one : FoundTerm). one.start + one.size ≤ dictionary.postings) more
          within_after (inl some) =
              let add = some.1 in
              let starts : add.one.start ≡ start = ap (λ (p : PlacedListing). p.start) add.placed in
              let sizes : add.one.size ≡ row.size = ap (λ (p : PlacedListing). p.listing.size) add.placed in
              subst (All (λ (one : FoundTerm). one.start + one.size ≤ dictionary.postings)) (sym add.pushed) (All-push (λ (one : FoundTerm). one.start + one.size ≤ dictionary.postings) found add.one scanned.within (omega (arith, scanned.start_within)))
          within_after (inr none) = subst (All (λ (one : FoundTerm). one.start + one.size ≤ dictionary.postings)) (sym none) scanned.within

          few_after : HasAtMostOneMore row.documents start row.size found more → length more ≤ place + 1
          few_after (inl some) = omega (arith, ap length some.1.pushed, length-append found (some.1.one ∷ []), scanned.few)
          few_after (inr none) = omega (arith, ap length none, scanned.few)
