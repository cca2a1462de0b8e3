-- Coded lists of postings.
use Rattle.std.proofs.Common.{◌≡◌, ℕ, ◌+◌, ◌-◌, ◌≤◌, List, [], ◌∷◌, ◌++◌, length, flat_map, zip, refl, sym, ap, ap₂, ◌∙◌, subst, arith}
use Rattle.std.proofs.lemmas.List.{append_assoc, append-nil}
use Rattle.std.proofs.lemmas.List.Elements.{All-head, All-tail}
use Rattle.ix_vbyte.specs.Code.{code_of}
use Rattle.ix_vbyte.specs.Gaps.{Ascends, gaps_from, gaps_of, next_after}
use Rattle.ix_vbyte.specs.Postings.{Posting, documents_of, IsPosting, ArePostings, codes_of, posting_bytes, list_bytes_from}
use Rattle.ix_vbyte.proofs.Values.{code_of-apart}

-- As many numbers, ascending from one place, are told by the codes of their gaps.
pub gaps_apart : (next top : ℕ) (xs ys : List ℕ) (rest other : List ℕ) → Ascends next top xs → Ascends next top ys → length xs ≡ length ys → codes_of (gaps_from next xs) ++ rest ≡ codes_of (gaps_from next ys) ++ other → (xs ≡ ys) × (rest ≡ other)
gaps_apart next top [] [] rest other a b l e = (refl, e)
gaps_apart next top [] (y ∷ ys) rest other a b l e = absurd (omega arith)
gaps_apart next top (x ∷ xs) [] rest other a b l e = absurd (omega arith)
gaps_apart next top (x ∷ xs) (y ∷ ys) rest other a b l e =
    let split : code_of (x + 1 - next) ++ (codes_of (gaps_from (x + 1) xs) ++ rest) ≡ code_of (y + 1 - next) ++ (codes_of (gaps_from (y + 1) ys) ++ other) =
    sym (append_assoc (code_of (x + 1 - next)) (codes_of (gaps_from (x + 1) xs)) rest) ∙ e ∙ append_assoc (code_of (y + 1 - next)) (codes_of (gaps_from (y + 1) ys)) other in
    let r = code_of-apart (x + 1 - next) (y + 1 - next) (codes_of (gaps_from (x + 1) xs) ++ rest) (codes_of (gaps_from (y + 1) ys) ++ other) split in
    let gap : x + 1 - next ≡ y + 1 - next = r.0 in
    let same : y ≡ x = omega arith in
    let others : codes_of (gaps_from (x + 1) xs) ++ rest ≡ codes_of (gaps_from (x + 1) ys) ++ other = r.1 ∙ ap (λ n. codes_of (gaps_from (n + 1) ys) ++ other) same in
    let s = gaps_apart (x + 1) top xs ys rest other a.2 (subst (λ n. Ascends (n + 1) top ys) same b.2) (omega arith) others in
    (ap₂ (λ z zs. z ∷ zs) (sym same) s.0, s.1)

-- A posting is told by its bytes.
pub posting_apart : (next top : ℕ) (p q : Posting) (rest other : List ℕ) → next ≤ p.0 → next ≤ q.0 → IsPosting top p → IsPosting top q → posting_bytes (p.0 + 1 - next) p ++ rest ≡ posting_bytes (q.0 + 1 - next) q ++ other → (p ≡ q) × (rest ≡ other)
posting_apart next top p q rest other a b u v e =
    let gap = code_of (p.0 + 1 - next) in
    let gap' = code_of (q.0 + 1 - next) in
    let count = code_of (length p.1) in
    let count' = code_of (length q.1) in
    let gaps = codes_of (gaps_of p.1) in
    let gaps' = codes_of (gaps_of q.1) in
    let split : gap ++ (count ++ (gaps ++ rest)) ≡ gap' ++ (count' ++ (gaps' ++ other)) =
    sym (regroup gap count gaps rest) ∙ e ∙ regroup gap' count' gaps' other in
    let r = code_of-apart (p.0 + 1 - next) (q.0 + 1 - next) (count ++ (gaps ++ rest)) (count' ++ (gaps' ++ other)) split in
    let s = code_of-apart (length p.1) (length q.1) (gaps ++ rest) (gaps' ++ other) r.1 in
    let t = gaps_apart 0 top p.1 q.1 rest other u.positions v.positions s.0 s.1 in
    let same_gap : p.0 + 1 - next ≡ q.0 + 1 - next = r.0 in
    let document : p.0 ≡ q.0 = omega arith in
    (ap₂ (λ (d : ℕ) (xs : List ℕ). (d, xs)) document t.0, t.1)
  where
    regroup : (a b c d : List ℕ) → a ++ b ++ c ++ d ≡ a ++ (b ++ (c ++ d))
    regroup a b c d = simp append_assoc

-- As many postings, ascending from one place, are told by their bytes.
pub list_apart : (next top : ℕ) (ps qs : List Posting) (rest other : List ℕ) → ArePostings next top ps → ArePostings next top qs → length ps ≡ length qs → list_bytes_from next ps ++ rest ≡ list_bytes_from next qs ++ other → (ps ≡ qs) × (rest ≡ other)
list_apart next top [] [] rest other a b l e = (refl, e)
list_apart next top [] (q ∷ qs) rest other a b l e = absurd (omega arith)
list_apart next top (p ∷ ps) [] rest other a b l e = absurd (omega arith)
list_apart next top (p ∷ ps) (q ∷ qs) rest other a b l e =
    let split : posting_bytes (p.0 + 1 - next) p ++ (list_bytes_from (p.0 + 1) ps ++ rest) ≡ posting_bytes (q.0 + 1 - next) q ++ (list_bytes_from (q.0 + 1) qs ++ other) =
    sym (append_assoc (posting_bytes (p.0 + 1 - next) p) (list_bytes_from (p.0 + 1) ps) rest) ∙ e
    ∙ append_assoc (posting_bytes (q.0 + 1 - next) q) (list_bytes_from (q.0 + 1) qs) other in
    let r = posting_apart next top p q (list_bytes_from (p.0 + 1) ps ++ rest) (list_bytes_from (q.0 + 1) qs ++ other) a.documents.0 b.documents.0 (All-head (IsPosting top) p ps a.each) (All-head (IsPosting top) q qs b.each) split in
    let same : q.0 ≡ p.0 = sym (ap (λ posting. posting.0) r.0) in
    let others : list_bytes_from (p.0 + 1) ps ++ rest ≡ list_bytes_from (p.0 + 1) qs ++ other = r.1 ∙ ap (λ d. list_bytes_from (d + 1) qs ++ other) same in
    let tail : ArePostings (p.0 + 1) top ps = record { documents = a.documents.2; each = All-tail (IsPosting top) p ps a.each } in
    let tail' : ArePostings (p.0 + 1) top qs = record { documents = subst (λ d. Ascends (d + 1) top (documents_of qs)) same b.documents.2; each = All-tail (IsPosting top) q qs b.each } in
    let s = list_apart (p.0 + 1) top ps qs rest other tail tail' (omega arith) others in
    (ap₂ (λ x xs. x ∷ xs) r.0 s.0, s.1)

-- one posting more
pub list_bytes_from-push : (next : ℕ) (ps : List Posting) (p : Posting) → list_bytes_from next (ps ++ p ∷ []) ≡ list_bytes_from next ps ++ posting_bytes (p.0 + 1 - next_after next (documents_of ps)) p
list_bytes_from-push next [] p = append-nil (posting_bytes (p.0 + 1 - next) p)
list_bytes_from-push next (q ∷ qs) p =
    ap (λ xs. posting_bytes (q.0 + 1 - next) q ++ xs) (list_bytes_from-push (q.0 + 1) qs p)
    ∙ sym (append_assoc (posting_bytes (q.0 + 1 - next) q) (list_bytes_from (q.0 + 1) qs) (posting_bytes (p.0 + 1 - next_after (q.0 + 1) (documents_of qs)) p))

-- for each document the bytes of its posting, whose gap is the document's
pub list_bytes_from-zip : (next : ℕ) (ps : List Posting) → list_bytes_from next ps ≡ flat_map (λ pair. posting_bytes pair.0 pair.1) (zip (gaps_from next (documents_of ps)) ps)
list_bytes_from-zip next [] = refl
list_bytes_from-zip next (p ∷ ps) = ap (λ xs. posting_bytes (p.0 + 1 - next) p ++ xs) (list_bytes_from-zip (p.0 + 1) ps)
