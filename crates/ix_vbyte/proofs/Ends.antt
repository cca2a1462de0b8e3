-- Where codes end, byte by byte and several bytes at a time.
use Rattle.std.proofs.Common.{◌≡◌, ℕ, zero, suc, ◌+◌, ◌-◌, ◌/◌, ◌%◌, ◌<◌, ◌≤◌, cond, ltb, leb, List, [], ◌∷◌, ◌++◌, length, take, drop, get_or, count_by, refl, sym, ap, ap₂, ◌∙◌, ⊎_elim, arith, take-append-drop}
use Rattle.std.specs.Int.Digits.{digits_of}
use Rattle.std.proofs.lemmas.Bool.{lt-ltb, le-ltb, lt-leb, le-leb, cases_lt}
use Rattle.std.proofs.lemmas.List.{append_assoc, drop_more, drop_all, length-append, length-take-le}
use Rattle.std.proofs.lemmas.List.Elements.{All-head, All-tail}
use Rattle.std.proofs.lemmas.List.Sums.{sum_by-cons}
use Rattle.ix_vbyte.specs.Code.{AreUnmarked, code_of}
use Rattle.ix_vbyte.specs.Ends.{end_of}
use Rattle.ix_vbyte.specs.Postings.{codes_of}
use Rattle.ix_vbyte.proofs.Values.{digits_unmarked}

-- how many codes end in the bytes
abbrev pub marks_in : List ℕ → ℕ
marks_in bytes = count_by (λ byte. leb 128 byte) bytes

pub end_of-none : (bytes : List ℕ) → end_of 0 bytes ≡ 0
unfolding end_of
end_of-none bytes = refl

pub end_of-nil : (count : ℕ) → end_of count [] ≡ 0
unfolding end_of
end_of-nil zero = refl
end_of-nil (suc count) = refl

pub end_of-le : (count : ℕ) (bytes : List ℕ) → end_of count bytes ≤ length bytes
unfolding end_of
end_of-le zero bytes = omega arith
end_of-le (suc count) [] = omega arith
end_of-le (suc count) (byte ∷ bytes) = omega (arith, end_of-le (cond (ltb byte 128) (suc count) count) bytes)

-- a byte that ends no code
pub unmarked_first : (count byte : ℕ) (bytes : List ℕ) → byte < 128 → end_of (suc count) (byte ∷ bytes) ≡ suc (end_of (suc count) bytes)
unfolding end_of
unmarked_first count byte bytes low = ap (λ b. suc (end_of (cond b (suc count) count) bytes)) (lt-ltb byte 128 low)

-- a byte that ends one
pub marked_first : (count byte : ℕ) (bytes : List ℕ) → 128 ≤ byte → end_of (suc count) (byte ∷ bytes) ≡ suc (end_of count bytes)
unfolding end_of
marked_first count byte bytes high = ap (λ b. suc (end_of (cond b (suc count) count) bytes)) (le-ltb byte 128 high)

-- ---- byte by byte
pub unmarked_more : (bytes : List ℕ) (place left : ℕ) → place < length bytes → 0 < left → get_or bytes place 0 < 128 → end_of left (drop place bytes) ≡ end_of left (drop (place + 1) bytes) + 1
unmarked_more bytes place zero within some low = absurd (omega arith)
unmarked_more bytes place (suc left) within some low =
    let e = unmarked_first left (get_or bytes place 0) (drop (place + 1) bytes) low in
    ap (λ xs. end_of (suc left) xs) (drop_more bytes place 0 within) ∙ e ∙ (omega arith)

pub marked_more : (bytes : List ℕ) (place left : ℕ) → place < length bytes → 0 < left → 128 ≤ get_or bytes place 0 → end_of left (drop place bytes) ≡ end_of (left - 1) (drop (place + 1) bytes) + 1
marked_more bytes place zero within some high = absurd (omega arith)
marked_more bytes place (suc left) within some high =
    let e = marked_first left (get_or bytes place 0) (drop (place + 1) bytes) high in
    let less : left ≡ suc left - 1 = omega arith in
    ap (λ xs. end_of (suc left) xs) (drop_more bytes place 0 within) ∙ e ∙ ap (λ n. suc (end_of n (drop (place + 1) bytes))) less ∙ (omega arith)

pub passed_all : (bytes : List ℕ) (place left : ℕ) → length bytes ≤ place → end_of left (drop place bytes) ≡ 0
passed_all bytes place left end = ap (λ xs. end_of left xs) (drop_all place bytes end) ∙ end_of-nil left

-- ---- several bytes at a time
pub first_marks : (byte : ℕ) (bytes : List ℕ) → 128 ≤ byte → marks_in (byte ∷ bytes) ≡ suc (marks_in bytes)
first_marks byte bytes high = let one : cond {A = ℕ} (leb 128 byte) 1 0 ≡ 1 = ap (λ b. cond b 1 0) (le-leb 128 byte high) in omega (arith, sum_by-cons (λ b. cond {A = ℕ} (leb 128 b) 1 0) byte bytes)

pub first_marks_not : (byte : ℕ) (bytes : List ℕ) → byte < 128 → marks_in (byte ∷ bytes) ≡ marks_in bytes
first_marks_not byte bytes low = let none : cond {A = ℕ} (leb 128 byte) 1 0 ≡ 0 = ap (λ b. cond b 1 0) (lt-leb 128 byte low) in omega (arith, sum_by-cons (λ b. cond {A = ℕ} (leb 128 b) 1 0) byte bytes)

-- fewer codes than are sought end in the first bytes
end_of-append : (count : ℕ) (xs ys : List ℕ) → marks_in xs < count → end_of count (xs ++ ys) ≡ length xs + end_of (count - marks_in xs) ys
end_of-append zero xs ys fewer = absurd (omega arith)
end_of-append (suc count) [] ys fewer =
    let all : suc count ≡ suc count - marks_in [] = omega arith in
    let same : end_of (suc count) ys ≡ end_of (suc count - marks_in []) ys = ap (λ n. end_of n ys) all in
    omega arith
end_of-append (suc count) (x ∷ xs) ys fewer =
    ⊎_elim
    (λ low.
    let same = first_marks_not x xs low in
    let e = end_of-append (suc count) xs ys (omega arith) in
    let again : end_of (suc count - marks_in xs) ys ≡ end_of (suc count - marks_in (x ∷ xs)) ys = ap (λ n. end_of (suc count - n) ys) (sym same) in
    let first = unmarked_first count x (xs ++ ys) low in
    omega arith)
    (λ high.
    let one = first_marks x xs high in
    let e = end_of-append count xs ys (omega arith) in
    let less : count - marks_in xs ≡ suc count - marks_in (x ∷ xs) = omega arith in
    let again : end_of (count - marks_in xs) ys ≡ end_of (suc count - marks_in (x ∷ xs)) ys = ap (λ n. end_of n ys) less in
    let first = marked_first count x (xs ++ ys) high in
    omega arith)
    (cases_lt x 128)

pub front_more : (size : ℕ) (rest front behind : List ℕ) (left ends : ℕ) → size ≤ length rest → front ≡ take size rest → behind ≡ drop size rest → ends ≡ marks_in front → ends < left → end_of left rest ≡ size + end_of (left - ends) behind
front_more size rest front behind left ends room first others counted fewer =
    let long : length front ≡ size = ap length first ∙ length-take-le size rest room in
    let fewer' : marks_in front < left = omega arith in
    let whole : rest ≡ front ++ behind = sym (take-append-drop size rest) ∙ ap₂ (λ xs ys. xs ++ ys) (sym first) (sym others) in
    ap (λ xs. end_of left xs) whole ∙ end_of-append left front behind fewer'
    ∙ ap₂ (λ n m. n + end_of (left - m) behind) long (sym counted)

-- ---- codes
end_of-code : (count last : ℕ) (front rest : List ℕ) → AreUnmarked front → 128 ≤ last → end_of (suc count) ((front ++ last ∷ []) ++ rest) ≡ length (front ++ last ∷ []) + end_of count rest
end_of-code count last [] rest low high = marked_first count last rest high ∙ (omega arith)
end_of-code count last (byte ∷ front) rest low high =
    unmarked_first count byte ((front ++ last ∷ []) ++ rest) (All-head (λ x. x < 128) byte front low)
    ∙ ap suc (end_of-code count last front rest (All-tail (λ x. x < 128) byte front low) high)
    ∙ (omega arith)

end_of-code_of : (count n : ℕ) (rest : List ℕ) → end_of (suc count) (code_of n ++ rest) ≡ length (code_of n) + end_of count rest
unfolding code_of
end_of-code_of count n rest = end_of-code count (128 + n % 128) (digits_of 128 (n / 128)) rest (digits_unmarked (n / 128)) (omega arith)

-- the codes of some numbers end where the bytes of these codes do
pub end_of-codes : (numbers rest : List ℕ) → end_of (length numbers) (codes_of numbers ++ rest) ≡ length (codes_of numbers)
end_of-codes [] rest = end_of-none rest
end_of-codes (n ∷ numbers) rest =
    ap (λ xs. end_of (suc (length numbers)) xs) (append_assoc (code_of n) (codes_of numbers) rest)
    ∙ end_of-code_of (length numbers) n (codes_of numbers ++ rest)
    ∙ ap (λ k. length (code_of n) + k) (end_of-codes numbers rest)
    ∙ sym (length-append (code_of n) (codes_of numbers))

-- an end that was found in the first bytes, whatever follows them
pub found_in_front : (count many : ℕ) (bytes front : List ℕ) (end : ℕ) → front ≡ take many bytes → ((behind : List ℕ) → end_of count (front ++ behind) ≡ end) → end ≡ end_of count bytes
found_in_front count many bytes front end is found =
    sym (found (drop many bytes)) ∙ ap (λ xs. end_of count (xs ++ drop many bytes)) is ∙ ap (end_of count) (take-append-drop many bytes)
