-- Postings whose documents are counted from another number: all gaps but the first stay as they are.
use Rattle.std.proofs.Common.{◌≡◌, ℕ, ◌+◌, ◌-◌, ◌^◌, ◌<◌, ◌≤◌, List, [], ◌∷◌, ◌++◌, length, refl, sym, ap, ap₂, ◌∙◌, subst, arith}
use Rattle.std.proofs.lemmas.List.{append_assoc}
use Rattle.ix_vbyte.specs.Code.{code_of}
use Rattle.ix_vbyte.specs.Gaps.{gaps_of}
use Rattle.ix_vbyte.specs.Postings.{Posting, ArePostings, codes_of, posting_bytes, list_bytes_from, shifted}
use Rattle.ix_vbyte.specs.Walking.{ArePostingsFrom, ReadsNumber, postings_told}
use Rattle.ix_vbyte.proofs.Walks.{first_posting, gap_read, no_postings}

-- the bytes do not tell from where documents are counted
pub list_bytes-shifted : (first next : ℕ) (postings : List Posting) → list_bytes_from (first + next) (shifted first postings) ≡ list_bytes_from next postings
list_bytes-shifted first next [] = refl
list_bytes-shifted first next (posting ∷ postings) =
    let gap : first + posting.0 + 1 - (first + next) ≡ posting.0 + 1 - next = omega arith in
    let after : first + posting.0 + 1 ≡ first + (posting.0 + 1) = omega arith in
    ap₂ (λ n m. posting_bytes n posting ++ list_bytes_from m (shifted first postings)) gap after
    ∙ ap (λ bytes. posting_bytes (posting.0 + 1 - next) posting ++ bytes) (list_bytes-shifted first (posting.0 + 1) postings)

regroup : (a b c d : List ℕ) → a ++ b ++ c ++ d ≡ a ++ (b ++ (c ++ d))
regroup a b c d = simp append_assoc

-- Of postings that are left the first gap was read: with another gap in its place the bytes are those of the postings
-- counted from elsewhere.
pub record IsShifted (next : ℕ) (postings : List Posting) (first to gap : ℕ) (rest : List ℕ) : Type 0 where
  pub fits : first + next + gap < 2 ^ 32
  pub low : to ≤ first + next + gap
  pub spelled : code_of (first + next + gap - to) ++ rest ≡ list_bytes_from to (shifted first postings)

pub is_shifted : (next count : ℕ) (bytes : List ℕ) (first to gap : ℕ) (rest : List ℕ) (postings : List Posting) → ArePostingsFrom next count bytes → 0 < length bytes → ReadsNumber bytes gap rest
    → postings_told count next bytes ≡ postings → ArePostings to (2 ^ 32 - 1) (shifted first postings) → IsShifted next postings first to gap rest
is_shifted next count bytes first to gap rest postings are some reads told may =
    let head = first_posting next count bytes are some in
    let posting = head.posting in
    let above : next ≤ posting.0 = head.may.above in
    let read = gap_read next bytes gap rest posting head.rest reads head.may head.coded in
    let is : gap ≡ posting.0 + 1 - next = read.0 in
    let all : ArePostings to (2 ^ 32 - 1) (shifted first (posting ∷ head.others)) = subst (λ ps. ArePostings to (2 ^ 32 - 1) (shifted first ps)) (sym told ∙ head.told) may in
    let from : to ≤ first + posting.0 = all.documents.0 in
    let below : first + posting.0 < 2 ^ 32 - 1 = all.documents.1 in
    let raised : first + next + gap - to ≡ first + posting.0 + 1 - to = omega arith in
    let after : first + (posting.0 + 1) ≡ first + posting.0 + 1 = omega arith in
    let others : head.rest ≡ list_bytes_from (first + posting.0 + 1) (shifted first head.others) =
    head.left.are.coded ∙ ap (list_bytes_from (posting.0 + 1)) head.left.told ∙ sym (list_bytes-shifted first (posting.0 + 1) head.others)
    ∙ ap (λ n. list_bytes_from n (shifted first head.others)) after in
    record {
      fits = omega arith;
      low = omega arith;
      spelled =
          ap₂ (λ n xs. code_of n ++ xs) raised read.1
          ∙ sym (regroup (code_of (first + posting.0 + 1 - to)) (code_of (length posting.1)) (codes_of (gaps_of posting.1)) head.rest)
          ∙ ap (λ xs. posting_bytes (first + posting.0 + 1 - to) posting ++ xs) others
          ∙ ap (λ ps. list_bytes_from to (shifted first ps)) (sym head.told ∙ told);
    }

-- no postings have no bytes
pub none_shifted : (next count : ℕ) (bytes : List ℕ) (first to : ℕ) (postings : List Posting) → postings_told count next bytes ≡ postings → length bytes ≡ 0 → list_bytes_from to (shifted first postings) ≡ []
none_shifted next count bytes first to postings told none = ap (λ ps. list_bytes_from to (shifted first ps)) (sym told ∙ no_postings next count bytes none)
