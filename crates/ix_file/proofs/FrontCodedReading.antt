-- A front coded term is read as it was written.
use Rattle.std.proofs.Common.{◌≡◌, ◌≢◌, ℕ, zero, suc, ◌+◌, ◌^◌, ◌<◌, ◌≤◌, Bool, true, false, cond, List, [], ◌∷◌, ◌++◌, length, take, drop, nat_eq, slice_get, Some, Less, Equal, refl, sym, ap, ap₂, ◌∙◌, subst, arith, eqb-true, length-append}
use Rattle.std.proofs.lemmas.Bool.Decides.{nat_tests}
use Rattle.std.proofs.lemmas.List.{append_assoc, length-take-le, length-drop, drop_at}
use Rattle.std.proofs.lemmas.List.Sums.{common_prefix_len-le}
use Rattle.std.specs.Cmp.Lexicographic.{slice_cmp}
use Rattle.std.specs.List.{common_prefix_len}
use Rattle.std.specs.Ordering.{nat_cmp, ordering_then}
use Rattle.ix_text.specs.ByteOrder.{IsAscending}
use Rattle.ix_text.specs.StopSets.{HasTermSize}
use Rattle.ix_vbyte.specs.Code.{code_of}
use Rattle.ix_vbyte.specs.Texts.{counted}
use Rattle.ix_vbyte.proofs.Values.{code_of-apart}
use Rattle.ix_index_text.specs.Sections.{front_coded}
use Rattle.ix_file.specs.TermReading.{IsLongestFront}
use Rattle.ix_file.proofs.AscendingLemmas.{less_from_pair}

-- how many bytes the term shares with the one before
abbrev pub shared_with : List ℕ → List ℕ → ℕ
shared_with before term = common_prefix_len nat_eq before term

nat_eq-same : (x : ℕ) → nat_eq x x ≡ true
nat_eq-same x = grind (arith, nat_tests)

-- a longest front is what is shared
pub shared_is : (before own : List ℕ) (shared : ℕ) → shared ≤ length before → 0 < length own → slice_get before shared ≢ slice_get own 0 → shared_with before (take shared before ++ own) ≡ shared
shared_is [] own zero within some differs = refl
shared_is [] own (suc n) within some differs = absurd (omega arith)
shared_is (x ∷ xs) [] zero within some differs = absurd (omega arith)
shared_is (x ∷ xs) (y ∷ ys) zero within some differs = at (nat_eq x y) refl
  where
    at : (b : Bool) → nat_eq x y ≡ b → cond b (1 + shared_with xs ys) 0 ≡ 0
    at true same = absurd (differs (ap Some (eqb-true x y same)))
    at false other = refl
shared_is (x ∷ xs) own (suc n) within some differs =
    ap (λ b. cond b (1 + shared_with xs (take n xs ++ own)) 0) (nat_eq-same x)
    ∙ ap (λ k. 1 + k) (shared_is xs own n (omega arith) some differs)
    ∙ (let next : 1 + n ≡ suc n = omega arith in next)

-- what stands above a text shares a front with it that is the longest
pub parts_from : (before term rest : List ℕ) → slice_cmp nat_cmp before term ≡ Less → IsLongestFront before (shared_with before term) (length (drop (shared_with before term) term)) (drop (shared_with before term) term ++ rest)
parts_from [] [] rest less = absurd (cc)
parts_from [] (y ∷ ys) rest less = record { within = omega arith; others = omega arith; begun = omega arith; differs = λ same. cc }
parts_from (x ∷ xs) [] rest less = absurd (cc)
parts_from (x ∷ xs) (y ∷ ys) rest less = at (nat_eq x y) refl (λ below. parts_from xs ys rest below)
  where
    from_next : IsLongestFront xs (shared_with xs ys) (length (drop (shared_with xs ys) ys)) (drop (shared_with xs ys) ys ++ rest)
        → IsLongestFront (x ∷ xs) (suc (shared_with xs ys)) (length (drop (shared_with xs ys) ys)) (drop (shared_with xs ys) ys ++ rest)
    from_next is = record { within = let within : shared_with xs ys ≤ length xs = is.within in omega arith; others = is.others; begun = is.begun; differs = is.differs }

    less_behind : x ≡ y → slice_cmp nat_cmp xs ys ≡ Less
    less_behind same =
        let tied : nat_cmp x y ≡ Equal = grind (arith, nat_tests) in
        ap (λ o. ordering_then o (slice_cmp nat_cmp xs ys)) (sym tied) ∙ less

    at : (b : Bool) → nat_eq x y ≡ b → (slice_cmp nat_cmp xs ys ≡ Less → IsLongestFront xs (shared_with xs ys) (length (drop (shared_with xs ys) ys)) (drop (shared_with xs ys) ys ++ rest))
        → IsLongestFront (x ∷ xs) (cond b (1 + shared_with xs ys) 0) (length (drop (cond b (1 + shared_with xs ys) 0) (y ∷ ys))) (drop (cond b (1 + shared_with xs ys) 0) (y ∷ ys) ++ rest)
    at true same others =
        let next : suc (shared_with xs ys) ≡ 1 + shared_with xs ys = omega arith in
        subst (λ k. IsLongestFront (x ∷ xs) k (length (drop k (y ∷ ys))) (drop k (y ∷ ys) ++ rest)) next (from_next (others (less_behind (eqb-true x y same))))
    at false other others = record { within = omega arith; others = omega arith; begun = omega arith; differs = λ same. apart (Some_apart same) }
      where
        Some_apart : slice_get (x ∷ xs) 0 ≡ slice_get (y ∷ ys ++ rest) 0 → x ≡ y
        Some_apart e = cc

        apart : x ≡ y → ⊥
        apart e = let same : nat_eq x y ≡ true = ap (λ z. nat_eq x z) (sym e) ∙ nat_eq-same x in cc

-- ---- reading

-- what the two numbers and the bytes behind them are, where a front coded term stands there
pub record IsFrontOf (before term rest : List ℕ) (shared size : ℕ) (bytes : List ℕ) : Type 0 where
  pub shared_is : shared ≡ shared_with before term
  pub size_is : size ≡ length (drop (shared_with before term) term)
  pub bytes_are : bytes ≡ drop (shared_with before term) term ++ rest

pub front_split : (before term rest left : List ℕ) → left ≡ front_coded before term ++ rest
    → left ≡ code_of (shared_with before term) ++ (code_of (length (drop (shared_with before term) term)) ++ (drop (shared_with before term) term ++ rest))
front_split before term rest left e =
    let m = shared_with before term in
    e ∙ append_assoc (code_of m) (counted (drop m term)) rest ∙ ap (λ bytes. code_of m ++ bytes) (append_assoc (code_of (length (drop m term))) (drop m term) rest)

pub behind_shared : (before term rest left behind : List ℕ) (shared : ℕ) → left ≡ code_of shared ++ behind → left ≡ front_coded before term ++ rest
    → (shared ≡ shared_with before term) × (behind ≡ code_of (length (drop (shared_with before term) term)) ++ (drop (shared_with before term) term ++ rest))
behind_shared before term rest left behind shared is e =
    code_of-apart shared (shared_with before term) behind _ (sym is ∙ front_split before term rest left e)

pub front_of : (before term rest left behind bytes : List ℕ) (shared size : ℕ) → left ≡ code_of shared ++ behind → behind ≡ code_of size ++ bytes → left ≡ front_coded before term ++ rest → IsFrontOf before term rest shared size bytes
front_of before term rest left behind bytes shared size is has e =
    let first = behind_shared before term rest left behind shared is e in
    let second = code_of-apart size (length (drop (shared_with before term) term)) bytes (drop (shared_with before term) term ++ rest) (sym has ∙ first.1) in
    record { shared_is = first.0; size_is = second.0; bytes_are = second.1 }

-- both numbers have a code
pub shared_small : (before term : List ℕ) → length before ≤ 255 → shared_with before term < 2 ^ 32
shared_small before term short = let few : (shared_with before term ≤ length before) × (shared_with before term ≤ length term) = common_prefix_len-le nat_eq before term in omega arith

pub others_small : (before term : List ℕ) → HasTermSize term → length (drop (shared_with before term) term) < 2 ^ 32
others_small before term has = let short : length term ≤ 255 = has.short in omega (arith, length-drop (shared_with before term) term)

-- the front of what stands above is the longest
pub longest_of : (before term rest bytes : List ℕ) (shared size : ℕ) → IsFrontOf before term rest shared size bytes → IsAscending (before ∷ term ∷ []) → IsLongestFront before shared size bytes
longest_of before term rest bytes shared size of above =
    let m = shared_with before term in
    let longest = parts_from before term rest (less_from_pair before term above) in
    subst (λ k. IsLongestFront before k size bytes) (sym of.shared_is)
    (subst (λ k. IsLongestFront before m k bytes) (sym of.size_is) (subst (λ bs. IsLongestFront before m (length (drop m term)) bs) (sym of.bytes_are) longest))

-- and both numbers sum to its length
pub whole_size : (before term rest bytes : List ℕ) (shared size : ℕ) → IsFrontOf before term rest shared size bytes → shared + size ≡ length term
whole_size before term rest bytes shared size of =
    let few : (shared_with before term ≤ length before) × (shared_with before term ≤ length term) = common_prefix_len-le nat_eq before term in
    omega (arith, of.shared_is, of.size_is, length-drop (shared_with before term) term)

pub enough_bytes : (before term rest bytes : List ℕ) (shared size : ℕ) → IsFrontOf before term rest shared size bytes → length bytes < size → ⊥
enough_bytes before term rest bytes shared size of few =
    omega (arith, ap length of.bytes_are, of.size_is, length-append (drop (shared_with before term) term) rest)

first_byte : (xs ys : List ℕ) → 0 < length xs → slice_get xs 0 ≡ slice_get (xs ++ ys) 0
first_byte [] ys some = absurd (omega arith)
first_byte (x ∷ xs) ys some = refl

-- what was cut, written again
pub front_found : (before left behind bytes own rest : List ℕ) (shared size : ℕ) → left ≡ code_of shared ++ behind → behind ≡ code_of size ++ bytes → IsLongestFront before shared size bytes → length own ≡ size → bytes ≡ own ++ rest
    → left ≡ front_coded before (take shared before ++ own) ++ rest
front_found before left behind bytes own rest shared size is has longest size_is cut =
    let term = take shared before ++ own in
    let within : shared ≤ length before = longest.within in
    let others : 0 < size = longest.others in
    let some : 0 < length own = omega arith in
    let same : shared_with before term ≡ shared = shared_is before own shared within some (λ e. longest.differs (e ∙ first_byte own rest some ∙ ap (λ bs. slice_get bs 0) (sym cut))) in
    let own_is : drop shared term ≡ own = drop_at (take shared before) own shared (length-take-le shared before within) in
    is ∙ ap (λ bs. code_of shared ++ bs) (has ∙ ap₂ (λ n bs. code_of n ++ bs) (sym size_is) cut ∙ sym (append_assoc (code_of (length own)) own rest))
    ∙ sym (append_assoc (code_of shared) (counted own) rest)
    ∙ ap (λ bs. (code_of shared ++ counted bs) ++ rest) (sym own_is)
    ∙ ap (λ k. (code_of k ++ counted (drop k term)) ++ rest) (sym same)
