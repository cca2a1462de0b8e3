-- What DICTIONARY says of each term, it says in one way.
use Rattle.std.proofs.Common.{◌≡◌, ℕ, suc, ◌+◌, ◌-◌, ◌%◌, ◌<◌, Bool, true, false, cond, List, [], ◌∷◌, ◌++◌, map, flat_map, length, get_or, take, drop, nat_eq, refl, sym, ap, ap₂, ◌∙◌, arith, eqb-true, length-append}
use Rattle.std.proofs.lemmas.List.{append_assoc, append-nil, take-append-drop}
use Rattle.std.specs.List.{common_prefix_len}
use Rattle.ix_text.specs.Parts.{DictionaryEntry}
use Rattle.ix_vbyte.specs.Code.{code_of}
use Rattle.ix_vbyte.specs.Texts.{counted}
use Rattle.ix_vbyte.proofs.Texts.{counted-apart}
use Rattle.ix_vbyte.proofs.Values.{code_of-apart, some_code_byte}
use Rattle.ix_index_text.specs.Listings.{Listing, listing_of, listing_bytes, listings_from, listings_section, dictionary_term_bytes, last_listed}
use Rattle.ix_index_text.specs.Sections.{Version, Plain, FrontCoded, front_coded, grouped, front_coded_from, dictionary_section, entry_counts}

-- DICTIONARY is that of what it lists of the entries
plain_listings : (place : ℕ) (before : List ℕ) (entries : List DictionaryEntry) → flat_map (λ entry. counted entry.term ++ entry_counts entry) entries ≡ listings_from Plain place before (map listing_of entries)
plain_listings place before [] = refl
plain_listings place before (entry ∷ entries) = ap (λ bytes. (counted entry.term ++ entry_counts entry) ++ bytes) (plain_listings (place + 1) entry.term entries)

front_coded_listings : (place : ℕ) (before : List ℕ) (entries : List DictionaryEntry) → front_coded_from place before entries ≡ listings_from FrontCoded place before (map listing_of entries)
front_coded_listings place before [] = refl
front_coded_listings place before (entry ∷ entries) =
    ap (λ bytes. (grouped place before entry.term ++ entry_counts entry) ++ bytes) (front_coded_listings (place + 1) entry.term entries)

pub dictionary_listings : (version : Version) (entries : List DictionaryEntry) → dictionary_section version entries ≡ listings_section version (map listing_of entries)
unfolding dictionary_section listings_section
dictionary_listings Plain entries = plain_listings 0 [] entries
dictionary_listings FrontCoded entries = front_coded_listings 0 [] entries

-- ---- a term

-- what two texts share stands at the front of both
shared_front : (before term : List ℕ) → take (common_prefix_len nat_eq before term) term ≡ take (common_prefix_len nat_eq before term) before
shared_front [] term = refl
shared_front (x ∷ xs) [] = refl
shared_front (x ∷ xs) (y ∷ ys) = shares (nat_eq x y) refl (shared_front xs ys)
  where
    shares : (b : Bool) → nat_eq x y ≡ b → take (common_prefix_len nat_eq xs ys) ys ≡ take (common_prefix_len nat_eq xs ys) xs → take (cond b (1 + common_prefix_len nat_eq xs ys) 0) (y ∷ ys) ≡ take (cond b (1 + common_prefix_len nat_eq xs ys) 0) (x ∷ xs)
    shares true same rest =
        let n = common_prefix_len nat_eq xs ys in
        let next : 1 + n ≡ suc n = omega arith in
        ap (λ k. take k (y ∷ ys)) next ∙ ap₂ (λ z zs. z ∷ zs) (sym (eqb-true x y same)) rest ∙ ap (λ k. take k (x ∷ xs)) (sym next)
    shares false other rest = refl

front_coded-apart : (before one other : List ℕ) (xs ys : List ℕ) → front_coded before one ++ xs ≡ front_coded before other ++ ys → (one ≡ other) × (xs ≡ ys)
front_coded-apart before one other xs ys e =
    let m = common_prefix_len nat_eq before one in
    let n = common_prefix_len nat_eq before other in
    let shares = code_of-apart m n (counted (drop m one) ++ xs) (counted (drop n other) ++ ys) (sym (append_assoc (code_of m) (counted (drop m one)) xs) ∙ e ∙ append_assoc (code_of n) (counted (drop n other)) ys) in
    let rests = counted-apart (drop m one) (drop n other) xs ys shares.1 in
    let fronts : take m one ≡ take n other = shared_front before one ∙ ap (λ k. take k before) shares.0 ∙ sym (shared_front before other) in
    (sym (take-append-drop m one) ∙ ap₂ (λ (us vs : List ℕ). us ++ vs) fronts rests.0 ∙ take-append-drop n other, rests.1)

grouped-apart : (place : ℕ) (before one other : List ℕ) (xs ys : List ℕ) → grouped place before one ++ xs ≡ grouped place before other ++ ys → (one ≡ other) × (xs ≡ ys)
grouped-apart place before one other xs ys e = either (nat_eq (place % 4) 0) e
  where
    either : (b : Bool) → cond b (counted one) (front_coded before one) ++ xs ≡ cond b (counted other) (front_coded before other) ++ ys → (one ≡ other) × (xs ≡ ys)
    either true same = counted-apart one other xs ys same
    either false same = front_coded-apart before one other xs ys same

-- no term stands there twice
pub term-apart : (version : Version) (place : ℕ) (before one other : List ℕ) (xs ys : List ℕ) → dictionary_term_bytes version place before one ++ xs ≡ dictionary_term_bytes version place before other ++ ys → (one ≡ other) × (xs ≡ ys)
term-apart Plain place before one other xs ys e = counted-apart one other xs ys e
term-apart FrontCoded place before one other xs ys e = grouped-apart place before one other xs ys e

-- ---- a listing

same_listing : (one other : Listing) → one.term ≡ other.term → one.documents ≡ other.documents → one.size ≡ other.size → one ≡ other
same_listing one other terms documents sizes =
    let with_term : List ℕ → Listing = λ term. record { term = term; documents = one.documents; size = one.size } in
    let with_documents : ℕ → Listing = λ n. record { term = other.term; documents = n; size = one.size } in
    let with_size : ℕ → Listing = λ n. record { term = other.term; documents = other.documents; size = n } in
    ap with_term terms ∙ ap with_documents documents ∙ ap with_size sizes

-- the counts behind a term
counts_apart : (m n k l : ℕ) (xs ys : List ℕ) → code_of m ++ code_of n ++ xs ≡ code_of k ++ code_of l ++ ys → (m ≡ k) × (n ≡ l) × (xs ≡ ys)
counts_apart m n k l xs ys e =
    let first = code_of-apart m k (code_of n ++ xs) (code_of l ++ ys) (sym (append_assoc (code_of m) (code_of n) xs) ∙ e ∙ append_assoc (code_of k) (code_of l) ys) in
    let second = code_of-apart n l xs ys first.1 in
    (first.0, second.0, second.1)

pub listing-apart : (version : Version) (place : ℕ) (before : List ℕ) (one other : Listing) (xs ys : List ℕ) → listing_bytes version place before one ++ xs ≡ listing_bytes version place before other ++ ys → (one ≡ other) × (xs ≡ ys)
listing-apart version place before one other xs ys e =
    let counts = code_of one.documents ++ code_of one.size in
    let counts' = code_of other.documents ++ code_of other.size in
    let terms = term-apart version place before one.term other.term (counts ++ xs) (counts' ++ ys) (sym (append_assoc (dictionary_term_bytes version place before one.term) counts xs) ∙ e ∙ append_assoc (dictionary_term_bytes version place before other.term) counts' ys) in
    let numbers = counts_apart one.documents one.size other.documents other.size xs ys terms.1 in
    (same_listing one other terms.0 numbers.0 numbers.1, numbers.2)

pub some_listing_byte : (version : Version) (place : ℕ) (before : List ℕ) (listing : Listing) → 0 < length (listing_bytes version place before listing)
some_listing_byte version place before listing =
    omega (arith, length-append (dictionary_term_bytes version place before listing.term) (code_of listing.documents ++ code_of listing.size), length-append (code_of listing.documents) (code_of listing.size), some_code_byte listing.size)

-- ---- listings

-- the term of the last listing, or the term before
abbrev pub last_from : List ℕ → List Listing → List ℕ
last_from before [] = before
last_from before (listing ∷ listings) = last_from listing.term listings

last_from-some : (before : List ℕ) (listing : Listing) (listings : List Listing) → last_from before (listing ∷ listings) ≡ get_or (map (λ listing. listing.term) (listing ∷ listings)) (length listings) []
last_from-some before listing [] = refl
last_from-some before listing (next ∷ listings) = last_from-some listing.term next listings

pub last_from-listed : (listings : List Listing) → last_from [] listings ≡ last_listed listings
last_from-listed [] = refl
last_from-listed (listing ∷ listings) =
    let place : length listings ≡ suc (length listings) - 1 = omega arith in
    last_from-some [] listing listings ∙ ap (λ n. get_or (map (λ (l : Listing). l.term) (listing ∷ listings)) n []) place

-- what listings go on with behind others, whose bytes leave the rest
pub record GoesOn (version : Version) (place : ℕ) (before : List ℕ) (done listings : List Listing) (left : List ℕ) : Type 0 where
  pub more : List Listing
  pub whole : listings ≡ done ++ more
  pub rest : left ≡ listings_from version (place + length done) (last_from before done) more

pub goes_on : (version : Version) (place : ℕ) (before : List ℕ) (done listings : List Listing) (left : List ℕ) → listings_from version place before listings ≡ listings_from version place before done ++ left → GoesOn version place before done listings left
goes_on version place before [] listings left e =
    let same : place ≡ place + 0 = omega arith in
    record { more = listings; whole = refl; rest = sym e ∙ ap (λ n. listings_from version n before listings) same }
goes_on version place before (d ∷ ds) [] left e =
    let behind = listings_from version (place + 1) d.term ds in
    absurd (omega (arith, ap length e, some_listing_byte version place before d, length-append (listing_bytes version place before d ++ behind) left, length-append (listing_bytes version place before d) behind))
goes_on version place before (d ∷ ds) (x ∷ xs) left e =
    let behind = listings_from version (place + 1) d.term ds in
    let first = listing-apart version place before x d (listings_from version (place + 1) x.term xs) (behind ++ left) (e ∙ append_assoc (listing_bytes version place before d) behind left) in
    let others = goes_on version (place + 1) d.term ds xs left (ap (λ (l : Listing). listings_from version (place + 1) l.term xs) (sym first.0) ∙ first.1) in
    let next : place + 1 + length ds ≡ place + suc (length ds) = omega arith in
    record {
      more = others.more;
      whole = ap₂ (λ (z : Listing) (zs : List Listing). z ∷ zs) first.0 others.whole;
      rest = others.rest ∙ ap (λ n. listings_from version n (last_from d.term ds) others.more) next;
    }

-- one listing more
pub listings_from-push : (version : Version) (place : ℕ) (before : List ℕ) (listings : List Listing) (listing : Listing) → listings_from version place before (listings ++ listing ∷ []) ≡ listings_from version place before listings ++ listing_bytes version (place + length listings) (last_from before listings) listing
listings_from-push version place before [] listing =
    let same : place ≡ place + 0 = omega arith in
    append-nil (listing_bytes version place before listing) ∙ ap (λ n. listing_bytes version n before listing) same
listings_from-push version place before (x ∷ xs) listing =
    let front = listing_bytes version place before x in
    let more = listings_from version (place + 1) x.term xs in
    let next : place + 1 + length xs ≡ place + suc (length xs) = omega arith in
    ap (λ bytes. front ++ bytes) (listings_from-push version (place + 1) x.term xs listing ∙ ap (λ n. more ++ listing_bytes version n (last_from x.term xs) listing) next)
    ∙ sym (append_assoc front more (listing_bytes version (place + suc (length xs)) (last_from x.term xs) listing))

-- the same bytes are those of the same listings
pub listings_told : (version : Version) (one other : List Listing) → listings_section version one ≡ listings_section version other → one ≡ other
unfolding listings_section
listings_told version one other e = at (goes_on version 0 [] other one [] (e ∙ sym (append-nil (listings_from version 0 [] other))))
  where
    at_end : (more : List Listing) → one ≡ other ++ more → [] ≡ listings_from version (0 + length other) (last_from [] other) more → one ≡ other
    at_end [] whole rest = whole ∙ append-nil other
    at_end (next ∷ more) whole rest =
        let place = 0 + length other in
        let before = last_from [] other in
        absurd (omega (arith, ap length rest, some_listing_byte version place before next, length-append (listing_bytes version place before next) (listings_from version (place + 1) next.term more)))

    at : GoesOn version 0 [] other one [] → one ≡ other
    at g = at_end g.more g.whole g.rest
