-- Places in a list of postings: what is left from one on, and what stays of them while the list is walked.
use Rattle.std.proofs.Common.{◌≡◌, ℕ, ◌+◌, ◌-◌, ◌^◌, ◌<◌, ◌≤◌, List, [], ◌∷◌, ◌++◌, length, get_or, drop, All, Contains, refl, sym, ap, ◌∙◌, subst, arith}
use Rattle.std.proofs.lemmas.List.{append_assoc, drop_at, length-append}
use Rattle.std.proofs.lemmas.List.Elements.{All-contains, All-drop, All-tail}
use Rattle.ix_vbyte.specs.Gaps.{next_after}
use Rattle.ix_vbyte.specs.Postings.{Posting, ArePostings, IsPosting, documents_of, posting_bytes, list_bytes_from}
use Rattle.ix_vbyte.specs.Skips.{AreSkips, IsSkip}
use Rattle.ix_vbyte.specs.Walking.{ArePostingsFrom, from_document, postings_told}
use Rattle.ix_vbyte.specs.declared.skips.Skip.{Skip}
use Rattle.ix_vbyte.proofs.Walks.{ToldPostings, postings_from, skipped}

-- ---- postings passed, and their places with them
abbrev tail_of : List Posting → List Posting
tail_of [] = []
tail_of (posting ∷ postings) = postings

-- a place that lies ahead is one of what is left behind a posting
one_passed : (posting : Posting) (postings : List Posting) (skip : Skip) → IsSkip (posting ∷ postings) skip → skip.left < length postings → IsSkip postings skip
one_passed posting postings skip is ahead = by_front is.front is.parted is.next
  where
    by_front : (front : List Posting) → posting ∷ postings ≡ front ++ is.back → skip.next ≡ next_after 0 (documents_of front) → IsSkip postings skip
    by_front [] parted next = let all = ap length parted in let left = is.left in absurd (omega (arith, all, left, ahead))
    by_front (first ∷ []) parted next = let all : length postings ≡ length is.back = ap (λ ps. length (tail_of ps)) parted in let left = is.left in absurd (omega (arith, all, left, ahead))
    by_front (first ∷ second ∷ front) parted next = record { front = second ∷ front; back = is.back; parted = ap tail_of parted; next = next; left = is.left; size = is.size }

pub skips_passed : (posting : Posting) (postings : List Posting) (skips : List Skip) → AreSkips (posting ∷ postings) skips → AreSkips postings skips
skips_passed posting postings skips are k d within ahead =
    one_passed posting postings (get_or skips k d) (are k d within (let more : length (posting ∷ postings) ≡ length postings + 1 = omega arith in omega (arith, ahead, more))) ahead

pub all_skips_passed : (front back : List Posting) (skips : List Skip) → AreSkips (front ++ back) skips → AreSkips back skips
all_skips_passed [] back skips are = are
all_skips_passed (posting ∷ front) back skips are = all_skips_passed front back skips (skips_passed posting (front ++ back) skips are)

-- ---- the parts of a list
pub record Parted (next : ℕ) (front back : List Posting) : Type 0 where
  pub bytes : list_bytes_from next (front ++ back) ≡ list_bytes_from next front ++ list_bytes_from (next_after next (documents_of front)) back
  pub are : ArePostings (next_after next (documents_of front)) (2 ^ 32 - 1) back
  pub above : next ≤ next_after next (documents_of front)

pub parted_list : (next : ℕ) (front back : List Posting) → ArePostings next (2 ^ 32 - 1) (front ++ back) → Parted next front back
parted_list next [] back are = record { bytes = refl; are = are; above = omega arith }
parted_list next (posting ∷ front) back are =
    let others : ArePostings (posting.0 + 1) (2 ^ 32 - 1) (front ++ back) = record { documents = are.documents.2; each = All-tail (IsPosting (2 ^ 32 - 1)) posting (front ++ back) are.each } in
    let rest = parted_list (posting.0 + 1) front back others in
    let from : next ≤ posting.0 = are.documents.0 in
    let above : posting.0 + 1 ≤ next_after (posting.0 + 1) (documents_of front) = rest.above in
    record {
      bytes = ap (λ xs. posting_bytes (posting.0 + 1 - next) posting ++ xs) rest.bytes ∙ sym (append_assoc (posting_bytes (posting.0 + 1 - next) posting) (list_bytes_from (posting.0 + 1) front) (list_bytes_from (next_after (posting.0 + 1) (documents_of front)) back));
      are = rest.are;
      above = omega (arith, from, above);
    }

-- the first of them lie below a document that is not below the next
pub all_skipped : (document next : ℕ) (front back : List Posting) → ArePostings next (2 ^ 32 - 1) (front ++ back) → next_after next (documents_of front) ≤ document → from_document document (front ++ back) ≡ from_document document back
all_skipped document next [] back are low = refl
all_skipped document next (posting ∷ front) back are low =
    let others : ArePostings (posting.0 + 1) (2 ^ 32 - 1) (front ++ back) = record { documents = are.documents.2; each = All-tail (IsPosting (2 ^ 32 - 1)) posting (front ++ back) are.each } in
    let above : posting.0 + 1 ≤ next_after (posting.0 + 1) (documents_of front) = (parted_list (posting.0 + 1) front back others).above in
    skipped document (posting ∷ front ++ back) (front ++ back) posting refl (omega (arith, above, low)) ∙ all_skipped document (posting.0 + 1) front back others low

-- ---- what is left from a place on
pub record Entered (next count : ℕ) (bytes : List ℕ) (skip : Skip) : Type 0 where
  pub front : List Posting
  pub back : List Posting
  pub parted : postings_told count next bytes ≡ front ++ back
  pub fits : skip.size ≤ length bytes
  pub behind : next_after next (documents_of front) ≡ skip.next
  pub left : ToldPostings skip.next skip.left (drop (length bytes - skip.size) bytes) back

pub entered : (next count : ℕ) (bytes : List ℕ) (skip : Skip) → ArePostingsFrom next count bytes → IsSkip (postings_told count next bytes) skip → skip.left < count → Entered next count bytes skip
entered next count bytes skip are is ahead =
    let counted : length (postings_told count next bytes) ≡ count = are.counted in
    let lengths : length (postings_told count next bytes) ≡ length is.front + length is.back = ap length is.parted ∙ length-append is.front is.back in
    let left : skip.left ≡ length is.back = is.left in
    let some : 0 < length is.front = omega (arith, counted, lengths, left, ahead) in
    let behind : next_after next (documents_of is.front) ≡ skip.next = by_front is.front some ∙ sym is.next in
    let all : ArePostings next (2 ^ 32 - 1) (is.front ++ is.back) = subst (ArePostings next (2 ^ 32 - 1)) is.parted are.are in
    let parts = parted_list next is.front is.back all in
    let coded : bytes ≡ list_bytes_from next is.front ++ list_bytes_from skip.next is.back =
    are.coded ∙ ap (list_bytes_from next) is.parted ∙ parts.bytes ∙ ap (λ n. list_bytes_from next is.front ++ list_bytes_from n is.back) behind in
    let sizes : length bytes ≡ length (list_bytes_from next is.front) + length (list_bytes_from skip.next is.back) = ap length coded ∙ length-append (list_bytes_from next is.front) (list_bytes_from skip.next is.back) in
    let size : skip.size ≡ length (list_bytes_from skip.next is.back) = is.size in
    let place : length (list_bytes_from next is.front) ≡ length bytes - skip.size = omega (arith, sizes, size) in
    let rest : drop (length bytes - skip.size) bytes ≡ list_bytes_from skip.next is.back =
    ap (drop (length bytes - skip.size)) coded ∙ drop_at (list_bytes_from next is.front) (list_bytes_from skip.next is.back) (length bytes - skip.size) place in
    record {
      front = is.front;
      back = is.back;
      parted = is.parted;
      fits = omega (arith, sizes, size);
      behind = behind;
      left = postings_from skip.next skip.left (drop (length bytes - skip.size) bytes) is.back (subst (λ n. ArePostings n (2 ^ 32 - 1) is.back) behind parts.are) rest (sym is.left);
    }
  where
    by_front : (front : List Posting) → 0 < length front → next_after next (documents_of front) ≡ next_after 0 (documents_of front)
    by_front [] some = absurd (omega (arith, some))
    by_front (posting ∷ front) some = refl

pub entered_from : (document next count : ℕ) (bytes : List ℕ) (skip : Skip) → ArePostingsFrom next count bytes → (e : Entered next count bytes skip) → skip.next ≤ document
    → from_document document (postings_told skip.left skip.next (drop (length bytes - skip.size) bytes)) ≡ from_document document (postings_told count next bytes)
entered_from document next count bytes skip are e low =
    let behind : next_after next (documents_of e.front) ≡ skip.next = e.behind in
    ap (from_document document) e.left.told ∙ sym (all_skipped document next e.front e.back (subst (ArePostings next (2 ^ 32 - 1)) e.parted are.are) (omega (arith, behind, low))) ∙ ap (from_document document) (sym e.parted)

-- one of the places of what is left
pub entered_at : (next count : ℕ) (bytes : List ℕ) (skips : List Skip) (skip : Skip) → ArePostingsFrom next count bytes → AreSkips (postings_told count next bytes) skips → Contains skips skip → skip.left < count → Entered next count bytes skip
entered_at next count bytes skips skip are places has ahead =
    let counted = are.counted in
    let one : skip.left < length (postings_told count next bytes) → IsSkip (postings_told count next bytes) skip =
    All-contains (λ (place : Skip). place.left < length (postings_told count next bytes) → IsSkip (postings_told count next bytes) place) skips skip places has in
    entered next count bytes skip are (one (omega (arith, counted, ahead))) ahead

-- and the places that are kept there, some of them perhaps let go
pub record LeftAt (next count : ℕ) (bytes : List ℕ) (skips : List Skip) : Type 0 where
  pub are : ArePostingsFrom next count bytes
  pub places : AreSkips (postings_told count next bytes) skips

pub fewer_skips : (n : ℕ) (postings : List Posting) (skips ahead : List Skip) → ahead ≡ drop n skips → AreSkips postings skips → AreSkips postings ahead
fewer_skips n postings skips ahead same are =
    let Ahead = λ (skip : Skip). skip.left < length postings → IsSkip postings skip in
    subst (All Ahead) (sym same) (All-drop Ahead n skips are)

pub left_at : (next count : ℕ) (bytes : List ℕ) (skips ahead : List Skip) (skip : Skip) (n : ℕ) → Entered next count bytes skip → AreSkips (postings_told count next bytes) skips → ahead ≡ drop n skips
    → LeftAt skip.next skip.left (drop (length bytes - skip.size) bytes) ahead
left_at next count bytes skips ahead skip n e are same =
    let back : AreSkips e.back skips = all_skips_passed e.front e.back skips (subst (λ ps. AreSkips ps skips) e.parted are) in
    record { are = e.left.are; places = fewer_skips n _ skips ahead same (subst (λ ps. AreSkips ps skips) (sym e.left.told) back) }

-- no places are places of any list
pub no_skips : (postings : List Posting) → AreSkips postings []
no_skips postings k d within = absurd (omega (arith, within))
