-- All lists, term by term, and where they stand in POSTINGS.
use Rattle.std.proofs.Common.{◌≡◌, ℕ, zero, suc, ◌+◌, ◌-◌, ◌<◌, ◌≤◌, ◌↔◌, Bool, IsTrue, List, [], ◌∷◌, ◌++◌, length, get_or, take, drop, slice_range, flat_map, All, Some, refl, sym, ap, ap₂, ◌∙◌, subst, ⊎_elim, arith}
use Rattle.std.specs.List.{AllZip, sum_by}
use Rattle.std.proofs.lemmas.Grind.{flat_map-append}
use Rattle.std.proofs.lemmas.List.{append-nil, get_or-drop, get_or-map, length-drop, length-map, length-take, take-append-drop, take_all, take_more}
use Rattle.std.proofs.lemmas.List.Elements.{All-weaker}
use Rattle.std.proofs.lemmas.List.Sums.{sum_by_more, sum_by_more_le}
use Rattle.std.proofs.lemmas.Option.{slice_get-get_or}
use Rattle.ix_vbyte.specs.Postings.{documents_of, IsPosting as IsPostingBelow, ArePostings as ArePostingsBelow}
use Rattle.ix_vbyte.proofs.Gaps.{Ascends-wider}
use Rattle.ix_vbyte.proofs.Postings.{list_apart}
use Rattle.ix_text.specs.Parts.{DocumentRow, Posting}
use Rattle.ix_text.specs.TokenLaws.{IsPostingIn}
use Rattle.ix_text.specs.TokenNumbers.{AreDistinct, numbers_of_postings}
use Rattle.ix_text.proofs.PartsLawful.{sum_by-map}
use Rattle.ix_text.proofs.TokensBefore.{count_of}
use Rattle.ix_file.specs.Claimed.{HasClaimed, HaveClaimed}
use Rattle.ix_index_text.specs.Listings.{Listing}
use Rattle.ix_file.specs.LongLists.{bytes_before}
use Rattle.ix_file.specs.ReadListings.{AreLaidOut, HasListedCounts, listing_in, listings_in, sizes_sum}
use Rattle.ix_file.specs.ReadLists.{AreClaimedLists, AreListedIn, AreListsIn, IsListOf, list_in}
use Rattle.ix_file.specs.declared.open.claims.Claims.{Claims}
use Rattle.ix_file.specs.PlacedTerms.{PlacedTerm}
use Rattle.ix_file.proofs.ClaimLemmas.{claimed_both, claimed_none}
use Rattle.ix_file.proofs.DistinctClaims.{distinct_or_not}
use Rattle.ix_file.proofs.ListReading.{documents_ascend}
use Rattle.ix_file.proofs.PostingReading.{posting_below}

-- ---- where a term's list stands
abbrev size_of : PlacedTerm → ℕ
size_of term = term.size

sizes : (terms : List PlacedTerm) → sizes_sum (listings_in terms) ≡ sum_by size_of terms
sizes terms = sum_by-map (λ (listing : Listing). listing.size) listing_in terms

pub list_within : (terms : List PlacedTerm) (n : ℕ) (term : PlacedTerm) → AreLaidOut terms → n < length terms → term ≡ get_or terms n term → term.start + term.size ≤ sizes_sum (listings_in terms)
list_within terms n term laid within is =
    let start = laid n term (slice_get-get_or terms n term within ∙ ap Some (sym is)) in
    let so_far : sum_by size_of (take n terms) + term.size ≤ sum_by size_of terms =
    subst (λ (t : PlacedTerm). sum_by size_of (take n terms) + t.size ≤ sum_by size_of terms) (sym is) (sum_by_more_le size_of terms n term within) in
    omega (arith, start, sizes (take n terms), sizes terms, so_far)

pub counts_at : (terms : List PlacedTerm) (n : ℕ) (term : PlacedTerm) → All HasListedCounts (listings_in terms) → n < length terms → term ≡ get_or terms n term → HasListedCounts (listing_in term)
counts_at terms n term all within is =
    subst HasListedCounts (get_or-map listing_in terms n term (listing_in term) within ∙ ap listing_in (sym is))
    (all n (listing_in term) (omega (arith, within, length-map terms listing_in)))

-- one list more, and all lists
pub bytes_more : (terms : List PlacedTerm) (n : ℕ) (term : PlacedTerm) → n < length terms → term ≡ get_or terms n term → bytes_before terms (n + 1) ≡ bytes_before terms n + term.size
bytes_more terms n term within is =
    omega (arith, sizes (take (n + 1) terms), sizes (take n terms), sum_by_more size_of terms n term within, ap size_of is)

pub bytes_all : (terms : List PlacedTerm) (n : ℕ) → length terms ≡ n → bytes_before terms n ≡ sizes_sum (listings_in terms)
bytes_all terms n all = ap (λ ts. sizes_sum (listings_in ts)) (take_all n terms (omega (arith, all)))

pub range_size : (section : List ℕ) (from size : ℕ) → length (slice_range section from (from + size)) ≤ size
range_size section from size = omega (arith, length-take (from + size - from) (drop from section))

-- ---- one list stands there
postings_below : (rows : List DocumentRow) (count : ℕ) (bytes : List ℕ) (postings : List Posting) → AreListedIn rows count bytes postings → ArePostingsBelow 0 (length rows + sum_by count_of rows) postings
postings_below rows count bytes postings listed =
    let top : ℕ = length rows + sum_by count_of rows in
    let wider : sum_by count_of rows ≤ top = omega arith in
    record {
      documents = Ascends-wider 0 (length rows) top (documents_of postings) (omega arith) (documents_ascend rows count bytes postings listed);
      each = All-weaker (IsPostingIn rows) (IsPostingBelow top) (λ posting inside. let below = posting_below rows posting inside in record { some = below.some; positions = Ascends-wider 0 (sum_by count_of rows) top posting.1 wider below.positions }) postings listed.each;
    }

pub same_list : (rows : List DocumentRow) (count : ℕ) (bytes : List ℕ) (one other : List Posting) → AreListedIn rows count bytes one → AreListedIn rows count bytes other → one ≡ other
same_list rows count bytes one other a b =
    (list_apart 0 (length rows + sum_by count_of rows) one other [] [] (postings_below rows count bytes one a) (postings_below rows count bytes other b) (a.counted ∙ sym b.counted)
    (ap (λ bs. bs ++ []) (sym a.coded ∙ b.coded))).0

-- ---- lists of some terms
pub zip_push : {X Y : Type 0} (R : X → Y → Type 0) (xs : List X) (ys : List Y) (x : X) (y : Y) → AllZip R xs ys → R x y → AllZip R (xs ++ x ∷ []) (ys ++ y ∷ [])
zip_push R [] [] x y all one = (one, tt)
zip_push R [] (b ∷ ys) x y all one = absurd all
zip_push R (a ∷ xs) [] x y all one = absurd all
zip_push R (a ∷ xs) (b ∷ ys) x y all one = (all.0, zip_push R xs ys x y all.1 one)

-- each term has its list
pub zip_at : {X Y : Type 0} (R : X → Y → Type 0) (xs : List X) (ys : List Y) (n : ℕ) (d : X) → AllZip R xs ys → n < length xs → (y : Y) × R (get_or xs n d) y
zip_at R [] ys n d all within = absurd (omega (arith, within))
zip_at R (x ∷ xs) [] n d all within = absurd all
zip_at R (x ∷ xs) (y ∷ ys) zero d all within = (y, all.0)
zip_at R (x ∷ xs) (y ∷ ys) (suc n) d all within = zip_at R xs ys n d all.1 (omega (arith, within))

pub same_lists : (rows : List DocumentRow) (section : List ℕ) (terms : List PlacedTerm) (one other : List (List Posting)) → AllZip (IsListOf rows section) terms one → AllZip (IsListOf rows section) terms other → one ≡ other
same_lists rows section [] [] [] a b = refl
same_lists rows section [] [] (y ∷ ys) a b = absurd b
same_lists rows section [] (x ∷ xs) other a b = absurd a
same_lists rows section (term ∷ terms) [] other a b = absurd a
same_lists rows section (term ∷ terms) (x ∷ xs) [] a b = absurd b
same_lists rows section (term ∷ terms) (x ∷ xs) (y ∷ ys) a b =
    ap₂ (λ z zs. z ∷ zs) (same_list rows term.documents (list_in section term) x y a.0 b.0) (same_lists rows section terms xs ys a.1 b.1)

-- where one term has no list, there are no such lists
pub no_list : (rows : List DocumentRow) (section : List ℕ) (terms : List PlacedTerm) (lists : List (List Posting)) (n : ℕ) (term : PlacedTerm) → n < length terms → term ≡ get_or terms n term → ((postings : List Posting) → IsListOf rows section term postings → ⊥) → AreListsIn rows section terms lists → ⊥
no_list rows section terms lists n term within is refused are =
    let found = zip_at (IsListOf rows section) terms lists n term are.each within in
    refused found.0 (subst (λ (t : PlacedTerm). IsListOf rows section t found.0) (sym is) found.1)

-- ---- with what was claimed
abbrev pub all_numbers : List DocumentRow → List (List Posting) → List ℕ
all_numbers rows lists = flat_map (numbers_of_postings rows) lists

-- the lists of the first terms were read, and their tokens claimed
pub record HasReadLists (rows : List DocumentRow) (section : List ℕ) (terms : List PlacedTerm) (old new : Claims) : Type 0 where
  pub lists : List (List Posting)
  pub each : AllZip (IsListOf rows section) terms lists
  pub claimed : HaveClaimed old new (all_numbers rows lists)

pub read_none_from : (rows : List DocumentRow) (section : List ℕ) (terms : List PlacedTerm) (from : ℕ) (claims : Claims) → HasReadLists rows section (slice_range terms from from) claims claims
read_none_from rows section terms from claims =
    let zero_long : from - from ≡ 0 = omega arith in
    let none : slice_range terms from from ≡ [] = ap (λ (n : ℕ). take n (drop from terms)) zero_long in
    subst (λ (ts : List PlacedTerm). HasReadLists rows section ts claims claims) (sym none) (record { lists = []; each = tt; claimed = claimed_none claims })

-- a range with one term more
range_more : (terms : List PlacedTerm) (from n : ℕ) (term : PlacedTerm) → from ≤ n → n < length terms → term ≡ get_or terms n term → slice_range terms from (n + 1) ≡ slice_range terms from n ++ term ∷ []
range_more terms from n term low within is =
    let one : n + 1 - from ≡ n - from + 1 = omega (arith, low) in
    let whole : from + (n - from) ≡ n = omega (arith, low) in
    let inside : n - from < length (drop from terms) = omega (arith, low, within, length-drop from terms) in
    ap (λ (k : ℕ). take k (drop from terms)) one ∙ take_more (drop from terms) (n - from) term inside
    ∙ ap (λ t. take (n - from) (drop from terms) ++ t ∷ []) (get_or-drop from terms (n - from) term ∙ ap (λ (k : ℕ). get_or terms k term) whole ∙ sym is)

pub read_one_list : (rows : List DocumentRow) (section : List ℕ) (terms : List PlacedTerm) (from n : ℕ) (term : PlacedTerm) (postings : List Posting) (old now new : Claims) → HasReadLists rows section (slice_range terms from n) old now → from ≤ n → n < length terms → term ≡ get_or terms n term → IsListOf rows section term postings → HaveClaimed now new (numbers_of_postings rows postings) → HasReadLists rows section (slice_range terms from (n + 1)) old new
read_one_list rows section terms from n term postings old now new read low within is listed claimed =
    let pushed : all_numbers rows (read.lists ++ postings ∷ []) ≡ all_numbers rows read.lists ++ numbers_of_postings rows postings =
    flat_map-append (numbers_of_postings rows) read.lists (postings ∷ []) ∙ ap (λ ns. all_numbers rows read.lists ++ ns) (append-nil (numbers_of_postings rows postings)) in
    record {
      lists = read.lists ++ postings ∷ [];
      each = subst (λ (ts : List PlacedTerm). AllZip (IsListOf rows section) ts (read.lists ++ postings ∷ [])) (sym (range_more terms from n term low within is)) (zip_push (IsListOf rows section) (slice_range terms from n) read.lists term postings read.each listed);
      claimed = subst (HaveClaimed old new) (sym pushed) (claimed_both old now new (all_numbers rows read.lists) (numbers_of_postings rows postings) read.claimed claimed);
    }

pub claimed_lists : (rows : List DocumentRow) (section : List ℕ) (terms : List PlacedTerm) (from n to : ℕ) (old new : Claims) → n ≡ to → HasReadLists rows section (slice_range terms from n) old new → HasClaimed old [] → AreClaimedLists rows section (slice_range terms from to) new
claimed_lists rows section terms from n to old new last read none =
    let P : ℕ → Type 0 = λ k. AllZip (IsListOf rows section) (slice_range terms from k) read.lists in
    record { lists = read.lists; each = subst P last read.each; claimed = read.claimed [] none }

-- ---- all terms
from_first : (terms : List PlacedTerm) (n : ℕ) → length terms ≡ n → slice_range terms 0 n ≡ terms
from_first terms n all =
    let same : n - 0 ≡ n = omega arith in
    ap (λ (k : ℕ). take k terms) same ∙ take_all n terms (omega (arith, all))

pub all_claimed : (rows : List DocumentRow) (section : List ℕ) (terms : List PlacedTerm) (n : ℕ) (claims : Claims) → length terms ≡ n → AreClaimedLists rows section (slice_range terms 0 n) claims → AreClaimedLists rows section terms claims
all_claimed rows section terms n claims all read = subst (λ (ts : List PlacedTerm). AreClaimedLists rows section ts claims) (from_first terms n all) read

-- no token was claimed twice
distinct_lists : (rows : List DocumentRow) (section : List ℕ) (terms : List PlacedTerm) (lists : List (List Posting)) (doubled : Bool) → AllZip (IsListOf rows section) terms lists → IsTrue doubled ↔ ¬ (AreDistinct (all_numbers rows lists)) → ¬ (IsTrue doubled) → AreListsIn rows section terms lists
distinct_lists rows section terms lists doubled each tells single = record {
  each = each;
  distinct = ⊎_elim (λ d. d) (λ n. absurd (single (tells.1 n))) (distinct_or_not (all_numbers rows lists));
}

-- one was
doubled_lists : (rows : List DocumentRow) (section : List ℕ) (terms : List PlacedTerm) (read : List (List Posting)) (doubled : Bool) (lists : List (List Posting)) → AllZip (IsListOf rows section) terms read → IsTrue doubled ↔ ¬ (AreDistinct (all_numbers rows read)) → IsTrue doubled → AreListsIn rows section terms lists → ⊥
doubled_lists rows section terms read doubled lists each tells twice are =
    let same = same_lists rows section terms lists read are.each each in
    tells.0 twice (subst (λ (ls : List (List Posting)). AreDistinct (all_numbers rows ls)) same are.distinct)

pub lists_are : (rows : List DocumentRow) (section : List ℕ) (terms : List PlacedTerm) (claims : Claims) (doubled : Bool) (read : AreClaimedLists rows section terms claims) → ((numbers : List ℕ) → HasClaimed claims numbers → IsTrue doubled ↔ ¬ (AreDistinct numbers)) → ¬ (IsTrue doubled) → AreListsIn rows section terms read.lists
lists_are rows section terms claims doubled read tells single =
    distinct_lists rows section terms read.lists doubled read.each (tells (all_numbers rows read.lists) read.claimed) single

pub lists_are_not : (rows : List DocumentRow) (section : List ℕ) (terms : List PlacedTerm) (claims : Claims) (doubled : Bool) (lists : List (List Posting)) → AreClaimedLists rows section terms claims → ((numbers : List ℕ) → HasClaimed claims numbers → IsTrue doubled ↔ ¬ (AreDistinct numbers)) → IsTrue doubled → AreListsIn rows section terms lists → ⊥
lists_are_not rows section terms claims doubled lists read tells twice are =
    doubled_lists rows section terms read.lists doubled lists read.each (tells (all_numbers rows read.lists) read.claimed) twice are

-- ---- those of two threads
zip_append : {X Y : Type 0} (R : X → Y → Type 0) (xs more : List X) (ys others : List Y) → AllZip R xs ys → AllZip R more others → AllZip R (xs ++ more) (ys ++ others)
zip_append R [] more [] others front back = back
zip_append R [] more (y ∷ ys) others front back = absurd front
zip_append R (x ∷ xs) more [] others front back = absurd front
zip_append R (x ∷ xs) more (y ∷ ys) others front back = (front.0, zip_append R xs more ys others front.1 back)

parted : (terms : List PlacedTerm) (middle n : ℕ) → length terms ≡ n → slice_range terms 0 middle ++ slice_range terms middle n ≡ terms
parted terms middle n all =
    let same : middle - 0 ≡ middle = omega arith in
    ap (λ (k : ℕ). take k terms ++ slice_range terms middle n) same
    ∙ ap (λ (ts : List PlacedTerm). take middle terms ++ ts) (take_all (n - middle) (drop middle terms) (omega (arith, all, length-drop middle terms))) ∙ take-append-drop middle terms

-- The lists that two threads read, told together.
pub record AreReadBeside (rows : List DocumentRow) (section : List ℕ) (terms : List PlacedTerm) (claims others : Claims) : Type 0 where
  pub front : List (List Posting)
  pub back : List (List Posting)
  pub each : AllZip (IsListOf rows section) terms (front ++ back)
  pub claimed : HasClaimed claims (all_numbers rows front)
  pub claimed_too : HasClaimed others (all_numbers rows back)

pub read_beside : (rows : List DocumentRow) (section : List ℕ) (terms : List PlacedTerm) (middle n : ℕ) (claims others : Claims) → length terms ≡ n → AreClaimedLists rows section (slice_range terms 0 middle) claims → AreClaimedLists rows section (slice_range terms middle n) others → AreReadBeside rows section terms claims others
read_beside rows section terms middle n claims others all first second = record {
  front = first.lists;
  back = second.lists;
  each = subst (λ (ts : List PlacedTerm). AllZip (IsListOf rows section) ts (first.lists ++ second.lists)) (parted terms middle n all) (zip_append (IsListOf rows section) (slice_range terms 0 middle) (slice_range terms middle n) first.lists second.lists first.each second.each);
  claimed = first.claimed;
  claimed_too = second.claimed;
}

-- what is told of the claims of both
abbrev pub TellsDoubled : Claims → Claims → Bool → Type 0
TellsDoubled claims others doubled = (one other : List ℕ) → HasClaimed claims one → HasClaimed others other → IsTrue doubled ↔ ¬ (AreDistinct (one ++ other))

told_beside : (rows : List DocumentRow) (section : List ℕ) (terms : List PlacedTerm) (claims others : Claims) (doubled : Bool) (read : AreReadBeside rows section terms claims others) → TellsDoubled claims others doubled → IsTrue doubled ↔ ¬ (AreDistinct (all_numbers rows (read.front ++ read.back)))
told_beside rows section terms claims others doubled read tells =
    subst (λ (ns : List ℕ). IsTrue doubled ↔ ¬ (AreDistinct ns)) (sym (flat_map-append (numbers_of_postings rows) read.front read.back)) (tells (all_numbers rows read.front) (all_numbers rows read.back) read.claimed read.claimed_too)

pub lists_are_beside : (rows : List DocumentRow) (section : List ℕ) (terms : List PlacedTerm) (claims others : Claims) (doubled : Bool) (read : AreReadBeside rows section terms claims others) → TellsDoubled claims others doubled → ¬ (IsTrue doubled) → AreListsIn rows section terms (read.front ++ read.back)
lists_are_beside rows section terms claims others doubled read tells single =
    distinct_lists rows section terms (read.front ++ read.back) doubled read.each (told_beside rows section terms claims others doubled read tells) single

pub lists_are_not_beside : (rows : List DocumentRow) (section : List ℕ) (terms : List PlacedTerm) (claims others : Claims) (doubled : Bool) (lists : List (List Posting)) → AreReadBeside rows section terms claims others → TellsDoubled claims others doubled → IsTrue doubled → AreListsIn rows section terms lists → ⊥
lists_are_not_beside rows section terms claims others doubled lists read tells twice are =
    doubled_lists rows section terms (read.front ++ read.back) doubled lists read.each (told_beside rows section terms claims others doubled read tells) twice are
