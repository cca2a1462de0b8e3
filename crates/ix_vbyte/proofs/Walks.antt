-- Walking coded lists: what the bytes tell, and each step.
use Rattle.std.proofs.Common.{◌≡◌, ◌≢◌, eqb, ℕ, zero, suc, ◌+◌, ◌-◌, ◌^◌, ◌<◌, ◌≤◌, true, false, cond, List, [], ◌∷◌, ◌++◌, length, take, drop, map, All, refl, sym, ap, ap₂, ◌∙◌, subst, arith}
use Rattle.std.proofs.lemmas.Bool.{lt-ltb, le-ltb, eqb-true, eqb-false}
use Rattle.std.proofs.lemmas.List.{append_assoc, append-nil, take_at, drop_at, nil_from_length}
use Rattle.std.proofs.lemmas.List.Elements.{All-nil, All-cons, All-head, All-tail}
use Rattle.ix_vbyte.specs.Code.{value_of, AreUnmarked, IsCode, code_of}
use Rattle.ix_vbyte.specs.CodesIn.{with_first, codes_in, numbers_in}
use Rattle.ix_vbyte.specs.Gaps.{Ascends, gaps_from, gaps_of, numbers_from, numbers_of}
use Rattle.ix_vbyte.specs.Postings.{Posting, documents_of, IsPosting, ArePostings, codes_of, posting_bytes, list_bytes_from, list_bytes}
use Rattle.ix_vbyte.specs.Walking.{positions_told, postings_of, postings_told, ArePositionsFrom, ArePostingsFrom, IsCodedList, BeginsWithNumber, ReadsNumber, MayFollow, BeginsWithPosting, ReadsPosting, from_document}
use Rattle.ix_vbyte.proofs.Values.{IsCode-code_of}
use Rattle.ix_vbyte.proofs.Gaps.{Ascends-lower, length-Ascends, length-gaps_from, numbers_from-gaps_from}

-- ---- codes behind one another
codes_in-front : (last : ℕ) (front rest : List ℕ) → AreUnmarked front → 128 ≤ last → codes_in (front ++ last ∷ rest) ≡ (front ++ last ∷ []) ∷ codes_in rest
unfolding codes_in
codes_in-front last [] rest low high = ap (λ b. cond b (with_first last (codes_in rest)) ((last ∷ []) ∷ codes_in rest)) (le-ltb last 128 high)
codes_in-front last (byte ∷ front) rest low high =
    ap (λ b. cond b (with_first byte (codes_in (front ++ last ∷ rest))) ((byte ∷ []) ∷ codes_in (front ++ last ∷ rest))) (lt-ltb byte 128 (All-head (λ x. x < 128) byte front low))
    ∙ ap (λ pieces. with_first byte pieces) (codes_in-front last front rest (All-tail (λ x. x < 128) byte front low) high)

numbers_in-code : (number : ℕ) (code rest : List ℕ) → IsCode number code → numbers_in (code ++ rest) ≡ number ∷ numbers_in rest
unfolding numbers_in
numbers_in-code number code rest is =
    let front = is.ends.front in
    let last = is.ends.last in
    let split : code ++ rest ≡ front ++ last ∷ rest = ap (λ xs. xs ++ rest) is.ends.parts ∙ append_assoc front (last ∷ []) rest in
    ap (λ xs. map value_of (codes_in xs)) split
    ∙ ap (λ pieces. map value_of pieces) (codes_in-front last front rest is.ends.unmarked is.ends.marked)
    ∙ ap (λ n. n ∷ map value_of (codes_in rest)) (ap value_of (sym is.ends.parts) ∙ is.value)

pub numbers_in-nil : numbers_in [] ≡ []
unfolding numbers_in codes_in
numbers_in-nil = refl

pub numbers_in-code_of : (number : ℕ) (rest : List ℕ) → number < 2 ^ 32 → numbers_in (code_of number ++ rest) ≡ number ∷ numbers_in rest
numbers_in-code_of number rest fits = numbers_in-code number (code_of number) rest (IsCode-code_of number fits)

numbers_in-codes_of : (numbers rest : List ℕ) → All (λ n. n < 2 ^ 32) numbers → numbers_in (codes_of numbers ++ rest) ≡ numbers ++ numbers_in rest
numbers_in-codes_of [] rest fits = refl
numbers_in-codes_of (n ∷ numbers) rest fits =
    ap numbers_in (append_assoc (code_of n) (codes_of numbers) rest)
    ∙ numbers_in-code_of n (codes_of numbers ++ rest) (All-head (λ x. x < 2 ^ 32) n numbers fits)
    ∙ ap (λ ns. n ∷ ns) (numbers_in-codes_of numbers rest (All-tail (λ x. x < 2 ^ 32) n numbers fits))

-- ---- gaps are numbers of 32 bits
gaps_fit : (next : ℕ) (xs : List ℕ) → Ascends next (2 ^ 32 - 1) xs → All (λ n. n < 2 ^ 32) (gaps_from next xs)
gaps_fit next [] a = All-nil (λ n. n < 2 ^ 32)
gaps_fit next (x ∷ xs) a = All-cons (λ n. n < 2 ^ 32) (x + 1 - next) (gaps_from (x + 1) xs) (omega arith) (gaps_fit (x + 1) xs a.2)

-- ---- positions
-- the gaps' bytes tell the positions
pub positions_told-coded : (next : ℕ) (xs : List ℕ) → Ascends next (2 ^ 32 - 1) xs → positions_told next (codes_of (gaps_from next xs)) ≡ xs
unfolding positions_told
positions_told-coded next xs a =
    let bytes : codes_of (gaps_from next xs) ≡ codes_of (gaps_from next xs) ++ [] = sym (append-nil (codes_of (gaps_from next xs))) in
    let told : numbers_in (codes_of (gaps_from next xs)) ≡ gaps_from next xs =
    ap numbers_in bytes ∙ numbers_in-codes_of (gaps_from next xs) [] (gaps_fit next xs a)
    ∙ ap (λ ns. gaps_from next xs ++ ns) numbers_in-nil ∙ append-nil (gaps_from next xs) in
    ap (numbers_from next) told ∙ numbers_from-gaps_from next (2 ^ 32 - 1) xs a

pub positions_told-nil : (next : ℕ) → positions_told next [] ≡ []
unfolding positions_told
positions_told-nil next = ap (numbers_from next) numbers_in-nil

-- what is known of some positions and the bytes of their gaps
pub record Told (next count : ℕ) (bytes xs : List ℕ) : Type 0 where
  pub are : ArePositionsFrom next count bytes
  pub told : positions_told next bytes ≡ xs

pub positions_from : (next count : ℕ) (bytes xs : List ℕ) → Ascends next (2 ^ 32 - 1) xs → bytes ≡ codes_of (gaps_from next xs) → length xs ≡ count → Told next count bytes xs
positions_from next count bytes xs a coded counted =
    let told : positions_told next bytes ≡ xs = ap (positions_told next) coded ∙ positions_told-coded next xs a in
    record {
      are = record {
        ascend = subst (Ascends next (2 ^ 32 - 1)) (sym told) a;
        coded = coded ∙ ap (λ ys. codes_of (gaps_from next ys)) (sym told);
        counted = ap length told ∙ counted;
      };
      told = told;
    }

-- the first of the positions that are left
pub record FirstPosition (next count : ℕ) (bytes : List ℕ) : Type 0 where
  pub position : ℕ
  pub others : List ℕ
  pub rest : List ℕ
  pub told : positions_told next bytes ≡ position ∷ others
  pub coded : bytes ≡ code_of (position + 1 - next) ++ rest
  pub above : next ≤ position
  pub below : position < 2 ^ 32 - 1
  pub left : Told (position + 1) (count - 1) rest others
  pub some : 0 < count

pub first_position : (next count : ℕ) (bytes : List ℕ) → ArePositionsFrom next count bytes → 0 < length bytes → FirstPosition next count bytes
first_position next count bytes are some = by_list (positions_told next bytes) refl
  where
    by_list : (xs : List ℕ) → positions_told next bytes ≡ xs → FirstPosition next count bytes
    by_list [] told =
        let none : bytes ≡ [] = are.coded ∙ ap (λ ys. codes_of (gaps_from next ys)) told in
        let empty : length bytes ≡ 0 = ap length none in
        absurd (omega arith)
    by_list (x ∷ xs) told =
        let a : Ascends next (2 ^ 32 - 1) (x ∷ xs) = subst (Ascends next (2 ^ 32 - 1)) told are.ascend in
        let counted : suc (length xs) ≡ count = sym (ap length told) ∙ are.counted in
        record {
          position = x;
          others = xs;
          rest = codes_of (gaps_from (x + 1) xs);
          told = told;
          coded = are.coded ∙ ap (λ ys. codes_of (gaps_from next ys)) told;
          above = a.0;
          below = a.1;
          left = positions_from (x + 1) (count - 1) (codes_of (gaps_from (x + 1) xs)) xs a.2 refl (omega arith);
          some = omega arith;
        }

-- what holds of a number holds of one that is the same
pub of_number : (P : ℕ → Type 0) (now was : ℕ) → now ≡ was → P was → P now
of_number P now was same holds = subst P (sym same) holds

-- the number that was read is the gap of the first position
pub record TakenPosition (next count : ℕ) (bytes : List ℕ) (gap : ℕ) (rest : List ℕ) : Type 0 where
  pub some : (1 ≤ gap) × (1 ≤ count)
  pub fits : next + (gap - 1) + 1 < 2 ^ 32
  pub told : positions_told next bytes ≡ (next + (gap - 1)) ∷ positions_told (next + (gap - 1) + 1) rest
  pub are : ArePositionsFrom (next + (gap - 1) + 1) (count - 1) rest

pub begins_with_gap : (next count : ℕ) (bytes : List ℕ) → ArePositionsFrom next count bytes → 0 < length bytes → BeginsWithNumber bytes
begins_with_gap next count bytes are some =
    let first = first_position next count bytes are some in
    let below : first.position < 2 ^ 32 - 1 = first.below in
    record { number = first.position + 1 - next; rest = first.rest; fits = omega arith; coded = first.coded }

pub taken_position : (next count : ℕ) (bytes : List ℕ) (gap : ℕ) (rest : List ℕ) → ArePositionsFrom next count bytes → 0 < length bytes → ReadsNumber bytes gap rest → TakenPosition next count bytes gap rest
taken_position next count bytes gap rest are some reads =
    let first = first_position next count bytes are some in
    let above : next ≤ first.position = first.above in
    let below : first.position < 2 ^ 32 - 1 = first.below in
    let counted : 0 < count = first.some in
    let read = reads (first.position + 1 - next) first.rest (omega arith) first.coded in
    let is : gap ≡ first.position + 1 - next = read.0 in
    let position : first.position ≡ next + (gap - 1) = omega arith in
    let P : ℕ → Type 0 = λ p. (positions_told next bytes ≡ p ∷ positions_told (p + 1) rest) × ArePositionsFrom (p + 1) (count - 1) rest in
    let both : P first.position = (
      first.told ∙ ap (λ xs. first.position ∷ xs) (sym first.left.told) ∙ ap (λ xs. first.position ∷ positions_told (first.position + 1) xs) (sym read.1),
      subst (ArePositionsFrom (first.position + 1) (count - 1)) (sym read.1) first.left.are,
    ) in
    let moved : P (next + (gap - 1)) = subst P position both in
    record { some = (omega arith, omega arith); fits = omega arith; told = moved.0; are = moved.1 }

-- no bytes, no positions
pub no_positions : (next : ℕ) (bytes : List ℕ) → length bytes ≡ 0 → positions_told next bytes ≡ []
no_positions next bytes none = ap (positions_told next) (nil_from_length bytes none) ∙ positions_told-nil next

-- what the test for emptiness tells
pub not_empty : (bytes : List ℕ) → false ≡ eqb (length bytes) 0 → 0 < length bytes
not_empty bytes test = let some : length bytes ≢ 0 = eqb-false (length bytes) 0 (sym test) in omega arith

pub empty : (bytes : List ℕ) → true ≡ eqb (length bytes) 0 → length bytes ≡ 0
empty bytes test = eqb-true (length bytes) 0 (sym test)

-- ---- postings
posting_fits : (next : ℕ) (posting : Posting) → MayFollow next posting → (posting.0 + 1 - next < 2 ^ 32) × (length posting.1 < 2 ^ 32)
posting_fits next posting may =
    let below : posting.0 < 2 ^ 32 - 1 = may.below in
    (omega arith, omega (arith, length-Ascends 0 (2 ^ 32 - 1) posting.1 (omega arith) may.is.positions))

regroup : (gap places gaps rest : List ℕ) → gap ++ places ++ gaps ++ rest ≡ gap ++ (places ++ (gaps ++ rest))
regroup gap places gaps rest = simp append_assoc

-- the numbers that a posting's bytes tell
numbers_in-posting : (next : ℕ) (posting : Posting) (rest : List ℕ) → MayFollow next posting
    → numbers_in (posting_bytes (posting.0 + 1 - next) posting ++ rest) ≡ (posting.0 + 1 - next) ∷ length posting.1 ∷ (gaps_of posting.1 ++ numbers_in rest)
numbers_in-posting next posting rest may =
    let gap = posting.0 + 1 - next in
    let places = length posting.1 in
    let gaps = codes_of (gaps_of posting.1) in
    let fits = posting_fits next posting may in
    ap numbers_in (regroup (code_of gap) (code_of places) gaps rest)
    ∙ numbers_in-code_of gap (code_of places ++ (gaps ++ rest)) fits.0
    ∙ ap (λ ns. gap ∷ ns) (numbers_in-code_of places (gaps ++ rest) fits.1)
    ∙ ap (λ ns. gap ∷ places ∷ ns) (numbers_in-codes_of (gaps_of posting.1) rest (gaps_fit 0 posting.1 may.is.positions))

-- the first posting of a list may stand there
first_may : (next : ℕ) (posting : Posting) (postings : List Posting) → ArePostings next (2 ^ 32 - 1) (posting ∷ postings) → MayFollow next posting
first_may next posting postings are = record { above = are.documents.0; below = are.documents.1; is = All-head (IsPosting (2 ^ 32 - 1)) posting postings are.each }

others_are : (next : ℕ) (posting : Posting) (postings : List Posting) → ArePostings next (2 ^ 32 - 1) (posting ∷ postings) → ArePostings (posting.0 + 1) (2 ^ 32 - 1) postings
others_are next posting postings are = record { documents = are.documents.2; each = All-tail (IsPosting (2 ^ 32 - 1)) posting postings are.each }

-- the bytes of a list tell its postings
postings_told-coded : (next : ℕ) (postings : List Posting) → ArePostings next (2 ^ 32 - 1) postings → postings_told (length postings) next (list_bytes_from next postings) ≡ postings
unfolding postings_told
postings_told-coded next [] are = refl
postings_told-coded next (posting ∷ postings) are =
    let may = first_may next posting postings are in
    let above : next ≤ posting.0 = may.above in
    let gap = posting.0 + 1 - next in
    let gaps = gaps_of posting.1 in
    let rest = list_bytes_from (posting.0 + 1) postings in
    let places : length gaps ≡ length posting.1 = length-gaps_from 0 posting.1 in
    let document : next + gap - 1 ≡ posting.0 = omega arith in
    let after : next + gap ≡ posting.0 + 1 = omega arith in
    let positions : numbers_of (take (length posting.1) (gaps ++ numbers_in rest)) ≡ posting.1 =
    ap numbers_of (take_at gaps (numbers_in rest) (length posting.1) places) ∙ numbers_from-gaps_from 0 (2 ^ 32 - 1) posting.1 may.is.positions in
    ap (postings_of (suc (length postings)) next) (numbers_in-posting next posting rest may)
    ∙ ap₂ (λ d ps. (d, ps) ∷ postings_of (length postings) (next + gap) (drop (length posting.1) (gaps ++ numbers_in rest))) document positions
    ∙ ap₂ (λ n ns. posting ∷ postings_of (length postings) n ns) after (drop_at gaps (numbers_in rest) (length posting.1) places)
    ∙ ap (λ ps. posting ∷ ps) (postings_told-coded (posting.0 + 1) postings (others_are next posting postings are))

-- what is known of some postings and their bytes
pub record ToldPostings (next count : ℕ) (bytes : List ℕ) (postings : List Posting) : Type 0 where
  pub are : ArePostingsFrom next count bytes
  pub told : postings_told count next bytes ≡ postings

pub postings_from : (next count : ℕ) (bytes : List ℕ) (postings : List Posting) → ArePostings next (2 ^ 32 - 1) postings → bytes ≡ list_bytes_from next postings → length postings ≡ count → ToldPostings next count bytes postings
postings_from next count bytes postings are coded counted =
    let told : postings_told count next bytes ≡ postings = ap₂ (λ n xs. postings_told n next xs) (sym counted) coded ∙ postings_told-coded next postings are in
    record {
      are = record {
        are = subst (ArePostings next (2 ^ 32 - 1)) (sym told) are;
        coded = coded ∙ ap (list_bytes_from next) (sym told);
        counted = ap length told ∙ counted;
      };
      told = told;
    }

-- the first of the postings that are left
pub record FirstPosting (next count : ℕ) (bytes : List ℕ) : Type 0 where
  pub posting : Posting
  pub others : List Posting
  pub rest : List ℕ
  pub may : MayFollow next posting
  pub told : postings_told count next bytes ≡ posting ∷ others
  pub coded : bytes ≡ posting_bytes (posting.0 + 1 - next) posting ++ rest
  pub left : ToldPostings (posting.0 + 1) (count - 1) rest others
  pub some : 0 < count

pub first_posting : (next count : ℕ) (bytes : List ℕ) → ArePostingsFrom next count bytes → 0 < length bytes → FirstPosting next count bytes
first_posting next count bytes are some = by_list (postings_told count next bytes) refl
  where
    by_list : (ps : List Posting) → postings_told count next bytes ≡ ps → FirstPosting next count bytes
    by_list [] told =
        let none : bytes ≡ [] = are.coded ∙ ap (list_bytes_from next) told in
        let empty : length bytes ≡ 0 = ap length none in
        absurd (omega arith)
    by_list (p ∷ ps) told =
        let a : ArePostings next (2 ^ 32 - 1) (p ∷ ps) = subst (ArePostings next (2 ^ 32 - 1)) told are.are in
        let counted : suc (length ps) ≡ count = sym (ap length told) ∙ are.counted in
        record {
          posting = p;
          others = ps;
          rest = list_bytes_from (p.0 + 1) ps;
          may = first_may next p ps a;
          told = told;
          coded = are.coded ∙ ap (list_bytes_from next) told;
          left = postings_from (p.0 + 1) (count - 1) (list_bytes_from (p.0 + 1) ps) ps (others_are next p ps a) refl (omega arith);
          some = omega arith;
        }

pub begins_with_posting : (next count : ℕ) (bytes : List ℕ) → ArePostingsFrom next count bytes → 0 < length bytes → BeginsWithPosting next bytes
begins_with_posting next count bytes are some =
    let first = first_posting next count bytes are some in
    record { posting = first.posting; rest = first.rest; may = first.may; coded = first.coded }

-- what was read is the first posting
pub record TakenPosting (next count : ℕ) (bytes : List ℕ) (document : ℕ) (positions rest : List ℕ) : Type 0 where
  pub some : 1 ≤ count
  pub fits : document + 1 < 2 ^ 32
  pub told : postings_told count next bytes ≡ (document, positions) ∷ postings_told (count - 1) (document + 1) rest
  pub are : ArePostingsFrom (document + 1) (count - 1) rest

pub taken_posting : (next count : ℕ) (bytes : List ℕ) (document : ℕ) (positions rest : List ℕ) → ArePostingsFrom next count bytes → 0 < length bytes → ReadsPosting next bytes document positions rest → TakenPosting next count bytes document positions rest
taken_posting next count bytes document positions rest are some reads =
    let first = first_posting next count bytes are some in
    let posting = first.posting in
    let below : posting.0 < 2 ^ 32 - 1 = first.may.below in
    let counted : 0 < count = first.some in
    let read = reads posting first.rest first.may first.coded in
    let is : document ≡ posting.0 = read.0 in
    let pair : posting ≡ (document, positions) = ap₂ (λ (d : ℕ) (xs : List ℕ). (d, xs)) (sym is) (sym read.1) in
    let P : Posting → Type 0 = λ p. (postings_told count next bytes ≡ p ∷ postings_told (count - 1) (p.0 + 1) rest) × ArePostingsFrom (p.0 + 1) (count - 1) rest in
    let both : P posting = (
      first.told ∙ ap (λ ps. posting ∷ ps) (sym first.left.told) ∙ ap (λ xs. posting ∷ postings_told (count - 1) (posting.0 + 1) xs) (sym read.2),
      subst (ArePostingsFrom (posting.0 + 1) (count - 1)) (sym read.2) first.left.are,
    ) in
    let moved : P (document, positions) = subst P pair both in
    record { some = omega arith; fits = omega arith; told = moved.0; are = moved.1 }

-- no bytes, no postings
none_of : (count next : ℕ) → postings_of count next [] ≡ []
none_of zero next = refl
none_of (suc count) next = refl

pub no_postings : (next count : ℕ) (bytes : List ℕ) → length bytes ≡ 0 → postings_told count next bytes ≡ []
unfolding postings_told
no_postings next count bytes none = ap (λ xs. postings_of count next (numbers_in xs)) (nil_from_length bytes none) ∙ ap (postings_of count next) numbers_in-nil ∙ none_of count next

-- a coded list tells its postings
pub coded_list : (count : ℕ) (bytes : List ℕ) (postings : List Posting) → ArePostings 0 (2 ^ 32 - 1) postings → length postings ≡ count → bytes ≡ list_bytes postings → ToldPostings 0 count bytes postings
coded_list count bytes postings are counted coded = postings_from 0 count bytes postings are coded counted

pub coded_list_are : (count : ℕ) (bytes : List ℕ) → IsCodedList count bytes → ArePostingsFrom 0 count bytes
coded_list_are count bytes list = (coded_list count bytes list.postings list.are list.counted list.coded).are

-- ---- a posting's bytes, part by part
pub record PostingRead (next : ℕ) (posting : Posting) (others : List ℕ) (gap places : ℕ) (rest : List ℕ) (end : ℕ) : Type 0 where
  pub gap_is : gap ≡ posting.0 + 1 - next
  pub places_are : places ≡ length posting.1
  pub positions : Told 0 places (take end rest) posting.1
  pub behind : drop end rest ≡ others

pub gap_first : (next : ℕ) (bytes : List ℕ) → BeginsWithPosting next bytes → BeginsWithNumber bytes
gap_first next bytes b = record {
  number = b.posting.0 + 1 - next;
  rest = code_of (length b.posting.1) ++ (codes_of (gaps_of b.posting.1) ++ b.rest);
  fits = (posting_fits next b.posting b.may).0;
  coded = b.coded ∙ regroup (code_of (b.posting.0 + 1 - next)) (code_of (length b.posting.1)) (codes_of (gaps_of b.posting.1)) b.rest;
}

pub begins_with_gap_of_posting : (next count : ℕ) (bytes : List ℕ) → ArePostingsFrom next count bytes → 0 < length bytes → BeginsWithNumber bytes
begins_with_gap_of_posting next count bytes are some = gap_first next bytes (begins_with_posting next count bytes are some)

-- the gap was read
pub gap_read : (next : ℕ) (bytes : List ℕ) (gap : ℕ) (rest : List ℕ) (posting : Posting) (others : List ℕ) → ReadsNumber bytes gap rest → MayFollow next posting → bytes ≡ posting_bytes (posting.0 + 1 - next) posting ++ others
    → (gap ≡ posting.0 + 1 - next) × (rest ≡ code_of (length posting.1) ++ (codes_of (gaps_of posting.1) ++ others))
gap_read next bytes gap rest posting others reads may coded =
    reads (posting.0 + 1 - next) (code_of (length posting.1) ++ (codes_of (gaps_of posting.1) ++ others)) (posting_fits next posting may).0
    (coded ∙ regroup (code_of (posting.0 + 1 - next)) (code_of (length posting.1)) (codes_of (gaps_of posting.1)) others)

pub places_next : (next : ℕ) (bytes : List ℕ) (gap : ℕ) (rest : List ℕ) → BeginsWithPosting next bytes → ReadsNumber bytes gap rest → BeginsWithNumber rest
places_next next bytes gap rest b reads = record {
  number = length b.posting.1;
  rest = codes_of (gaps_of b.posting.1) ++ b.rest;
  fits = (posting_fits next b.posting b.may).1;
  coded = (gap_read next bytes gap rest b.posting b.rest reads b.may b.coded).1;
}

-- how many bytes the codes of as many numbers take
abbrev pub SkipsCodes : List ℕ → ℕ → ℕ → Type 0
SkipsCodes bytes count end = (numbers rest : List ℕ) → bytes ≡ codes_of numbers ++ rest → length numbers ≡ count → end ≡ length (codes_of numbers)

pub posting_read : (next : ℕ) (bytes : List ℕ) (gap : ℕ) (second : List ℕ) (places : ℕ) (rest : List ℕ) (end : ℕ) (posting : Posting) (others : List ℕ)
    → ReadsNumber bytes gap second → ReadsNumber second places rest → SkipsCodes rest places end → MayFollow next posting → bytes ≡ posting_bytes (posting.0 + 1 - next) posting ++ others → PostingRead next posting others gap places rest end
posting_read next bytes gap second places rest end posting others reads reads' skips may coded =
    let first = gap_read next bytes gap second posting others reads may coded in
    let gaps = gaps_of posting.1 in
    let then = reads' (length posting.1) (codes_of gaps ++ others) (posting_fits next posting may).1 first.1 in
    let many : length gaps ≡ places = length-gaps_from 0 posting.1 ∙ sym then.0 in
    let to : length (codes_of gaps) ≡ end = sym (skips gaps others then.1 many) in
    let front : take end rest ≡ codes_of gaps = ap (take end) then.1 ∙ take_at (codes_of gaps) others end to in
    record {
      gap_is = first.0;
      places_are = then.0;
      positions = positions_from 0 places (take end rest) posting.1 may.is.positions front (sym then.0);
      behind = ap (drop end) then.1 ∙ drop_at (codes_of gaps) others end to;
    }

-- ---- seeking
pub skipped : (document : ℕ) (postings others : List Posting) (posting : Posting) → postings ≡ posting ∷ others → posting.0 < document → from_document document postings ≡ from_document document others
skipped document postings others posting is below =
    ap (from_document document) is ∙ ap (λ b. cond b (from_document document others) (posting ∷ others)) (lt-ltb posting.0 document below)

pub found : (document : ℕ) (postings others : List Posting) (posting : Posting) → postings ≡ posting ∷ others → document ≤ posting.0 → from_document document postings ≡ posting ∷ others
found document postings others posting is above =
    ap (from_document document) is ∙ ap (λ b. cond b (from_document document others) (posting ∷ others)) (le-ltb posting.0 document above)

-- ---- what a caller knows of what is left
pub ascend_from_none : (next count : ℕ) (bytes xs : List ℕ) → ArePositionsFrom next count bytes → positions_told next bytes ≡ xs → Ascends 0 (2 ^ 32 - 1) xs
ascend_from_none next count bytes xs are told =
    subst (Ascends 0 (2 ^ 32 - 1)) told (Ascends-lower next 0 (2 ^ 32 - 1) (positions_told next bytes) (omega arith) are.ascend)

pub are_from_none : (next count : ℕ) (bytes : List ℕ) (postings : List Posting) → ArePostingsFrom next count bytes → postings_told count next bytes ≡ postings → ArePostings 0 (2 ^ 32 - 1) postings
are_from_none next count bytes postings are told =
    subst (ArePostings 0 (2 ^ 32 - 1)) told
    (record { documents = Ascends-lower next 0 (2 ^ 32 - 1) (documents_of (postings_told count next bytes)) (omega arith) are.are.documents; each = are.are.each })
