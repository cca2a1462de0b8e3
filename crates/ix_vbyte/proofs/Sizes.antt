-- Postings in range, and the size of their coded list.
use Rattle.std.proofs.Common.{ℕ, ◌+◌, ◌-◌, ◌*◌, ◌^◌, ◌<◌, ◌≤◌, List, [], ◌∷◌, length, get_or, All, subst, arith, length-append}
use Rattle.std.proofs.lemmas.List.{length-map, get_or-map}
use Rattle.std.proofs.lemmas.List.Elements.{All-head, All-tail, All-map, All-weaker}
use Rattle.std.proofs.lemmas.List.Sums.{sum_by-cons}
use Rattle.std.specs.List.{sum_by}
use Rattle.std.specs.List.Sorted.{IsStrictlyIncreasing}
use Rattle.ix_vbyte.specs.Code.{code_of}
use Rattle.ix_vbyte.specs.Gaps.{Ascends, gaps_from}
use Rattle.ix_vbyte.specs.Postings.{Posting, documents_of, IsPosting, LiesBelow, ArePostings, codes_of, posting_bytes, list_bytes_from}
use Rattle.ix_vbyte.proofs.Gaps.{Ascends-rising, Ascends-within, Ascends-from, length-Ascends}
use Rattle.ix_vbyte.proofs.Values.{length-code_of}

-- what is said of a posting apart from the range
abbrev pub IsRising : Posting → Type 0
IsRising posting = (0 < length posting.1) × IsStrictlyIncreasing posting.1

pub postings_from : (top : ℕ) (postings : List Posting) → IsStrictlyIncreasing (documents_of postings) → All IsRising postings → All (LiesBelow top) postings → ArePostings 0 top postings
postings_from top postings rising each below = record {
  documents = Ascends-from 0 top (documents_of postings) rising (All-map (λ x. (0 ≤ x) × (x < top)) (λ posting. posting.0) postings (All-weaker (LiesBelow top) (λ posting. (0 ≤ posting.0) × (posting.0 < top)) (λ posting h. (omega arith, h.0)) postings below));
  each = λ k d h. record { some = (each k d h).0; positions = Ascends-from 0 top (get_or postings k d).1 (each k d h).1 (All-weaker (λ x. x < top) (λ x. (0 ≤ x) × (x < top)) (λ x l. (omega arith, l)) (get_or postings k d).1 (below k d h).1) };
}

pub postings_rising : (top : ℕ) (postings : List Posting) → ArePostings 0 top postings → IsStrictlyIncreasing (documents_of postings) × All IsRising postings × All (LiesBelow top) postings
postings_rising top postings are =
    let within = Ascends-within 0 top (documents_of postings) are.documents in (
      Ascends-rising 0 top (documents_of postings) are.documents,
      λ k d h. ((are.each k d h).some, Ascends-rising 0 top (get_or postings k d).1 (are.each k d h).positions),
      λ k d h. (document_below k d h, All-weaker (λ x. (0 ≤ x) × (x < top)) (λ x. x < top) (λ x l. l.1) (get_or postings k d).1 (Ascends-within 0 top (get_or postings k d).1 (are.each k d h).positions)),
    )
  where
    document_below : (k : ℕ) (d : Posting) → k < length postings → (get_or postings k d).0 < top
    document_below k d h =
        let within = Ascends-within 0 top (documents_of postings) are.documents in
        let count = length-map postings (λ (posting : Posting). posting.0) in
        subst (λ n. n < top) (get_or-map (λ (posting : Posting). posting.0) postings k d 0 h) (within k 0 (omega arith)).1

-- five bytes a number
pub gaps_short : (next top : ℕ) (xs : List ℕ) → Ascends next top xs → top < 2 ^ 32 → length (codes_of (gaps_from next xs)) ≤ 5 * length xs
gaps_short next top [] a small = omega arith
gaps_short next top (x ∷ xs) a small =
    let first = length-code_of (x + 1 - next) (omega arith) in
    let others = gaps_short (x + 1) top xs a.2 small in
    omega (arith, first, others, length-append (code_of (x + 1 - next)) (codes_of (gaps_from (x + 1) xs)))

-- a posting has a position, which its gap and its count are laid to
pub posting_short : (gap top : ℕ) (posting : Posting) → gap ≤ top → length posting.1 ≤ top → IsPosting top posting → top < 2 ^ 32 → length (posting_bytes gap posting) ≤ 15 * length posting.1
posting_short gap top posting small few is low =
    let first = length-code_of gap (omega arith) in
    let second = length-code_of (length posting.1) (omega arith) in
    let third = gaps_short 0 top posting.1 is.positions low in
    let some : 0 < length posting.1 = is.some in
    simp length-append (omega (arith, first, second, third, some))

pub list_short : (next top : ℕ) (postings : List Posting) → ArePostings next top postings → top < 2 ^ 32 → length (list_bytes_from next postings) ≤ 15 * sum_by (λ posting. length posting.1) postings
list_short next top [] are low = omega arith
list_short next top (p ∷ ps) are low =
    let is = All-head (IsPosting top) p ps are.each in
    let document = are.documents.1 in
    let few = length-Ascends 0 top p.1 (omega arith) is.positions in
    let first = posting_short (p.0 + 1 - next) top p (omega (arith, document)) (omega (arith, few)) is low in
    let others = list_short (p.0 + 1) top ps (record { documents = are.documents.2; each = All-tail (IsPosting top) p ps are.each }) low in
    omega (arith, first, others, sum_by-cons (λ (posting : Posting). length posting.1) p ps, length-append (posting_bytes (p.0 + 1 - next) p) (list_bytes_from (p.0 + 1) ps))
