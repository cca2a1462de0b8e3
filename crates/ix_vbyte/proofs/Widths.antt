-- The code of a number by its width.
use Rattle.std.proofs.Common.{◌≡◌, ℕ, ◌+◌, ◌/◌, ◌%◌, ◌^◌, ◌<◌, ◌≤◌, [], ◌∷◌, ◌++◌, sym, ap, ◌∙◌, arith}
use Rattle.std.specs.Int.Digits.{digits_of}
use Rattle.std.proofs.lemmas.Int.Digits.{digits_of_step}
use Rattle.ix_vbyte.specs.Code.{code_of}

digits_1 : (n : ℕ) → 0 < n → n < 128 → digits_of 128 n ≡ (n % 128) ∷ []
digits_1 n low high =
    let none : n / 128 ≡ 0 = omega arith in
    digits_of_step 128 n (omega arith) low ∙ ap (λ m. digits_of 128 m ++ (n % 128) ∷ []) none

digits_2 : (n : ℕ) → 128 ≤ n → n < 2 ^ 14 → digits_of 128 n ≡ (n / 128 % 128) ∷ (n % 128) ∷ []
digits_2 n low high =
    digits_of_step 128 n (omega arith) (omega arith) ∙ ap (λ xs. xs ++ (n % 128) ∷ []) (digits_1 (n / 128) (omega arith) (omega arith))

digits_3 : (n : ℕ) → 2 ^ 14 ≤ n → n < 2 ^ 21 → digits_of 128 n ≡ (n / 2 ^ 14 % 128) ∷ (n / 128 % 128) ∷ (n % 128) ∷ []
digits_3 n low high =
    let twice : n / 128 / 128 ≡ n / 2 ^ 14 = omega arith in
    digits_of_step 128 n (omega arith) (omega arith)
    ∙ ap (λ xs. xs ++ (n % 128) ∷ []) (digits_2 (n / 128) (omega arith) (omega arith))
    ∙ ap (λ m. (m % 128) ∷ (n / 128 % 128) ∷ (n % 128) ∷ []) twice

digits_4 : (n : ℕ) → 2 ^ 21 ≤ n → n < 2 ^ 28 → digits_of 128 n ≡ (n / 2 ^ 21 % 128) ∷ (n / 2 ^ 14 % 128) ∷ (n / 128 % 128) ∷ (n % 128) ∷ []
digits_4 n low high =
    let twice : n / 128 / 128 ≡ n / 2 ^ 14 = omega arith in
    let thrice : n / 128 / 2 ^ 14 ≡ n / 2 ^ 21 = omega arith in
    digits_of_step 128 n (omega arith) (omega arith)
    ∙ ap (λ xs. xs ++ (n % 128) ∷ []) (digits_3 (n / 128) (omega arith) (omega arith))
    ∙ ap (λ m. (m % 128) ∷ (n / 128 / 128 % 128) ∷ (n / 128 % 128) ∷ (n % 128) ∷ []) thrice
    ∙ ap (λ m. (n / 2 ^ 21 % 128) ∷ (m % 128) ∷ (n / 128 % 128) ∷ (n % 128) ∷ []) twice

pub code_of_1 : (n : ℕ) → n < 128 → code_of n ≡ (128 + n % 128) ∷ []
unfolding code_of
code_of_1 n high =
    let none : n / 128 ≡ 0 = omega arith in
    ap (λ m. digits_of 128 m ++ (128 + n % 128) ∷ []) none

pub code_of_2 : (n : ℕ) → 128 ≤ n → n < 2 ^ 14 → code_of n ≡ (n / 128 % 128) ∷ (128 + n % 128) ∷ []
unfolding code_of
code_of_2 n low high = ap (λ xs. xs ++ (128 + n % 128) ∷ []) (digits_1 (n / 128) (omega arith) (omega arith))

pub code_of_3 : (n : ℕ) → 2 ^ 14 ≤ n → n < 2 ^ 21 → code_of n ≡ (n / 2 ^ 14 % 128) ∷ (n / 128 % 128) ∷ (128 + n % 128) ∷ []
unfolding code_of
code_of_3 n low high =
    let twice : n / 128 / 128 ≡ n / 2 ^ 14 = omega arith in
    ap (λ xs. xs ++ (128 + n % 128) ∷ []) (digits_2 (n / 128) (omega arith) (omega arith))
    ∙ ap (λ m. (m % 128) ∷ (n / 128 % 128) ∷ (128 + n % 128) ∷ []) twice

pub code_of_4 : (n : ℕ) → 2 ^ 21 ≤ n → n < 2 ^ 28 → code_of n ≡ (n / 2 ^ 21 % 128) ∷ (n / 2 ^ 14 % 128) ∷ (n / 128 % 128) ∷ (128 + n % 128) ∷ []
unfolding code_of
code_of_4 n low high =
    let twice : n / 128 / 128 ≡ n / 2 ^ 14 = omega arith in
    let thrice : n / 128 / 2 ^ 14 ≡ n / 2 ^ 21 = omega arith in
    ap (λ xs. xs ++ (128 + n % 128) ∷ []) (digits_3 (n / 128) (omega arith) (omega arith))
    ∙ ap (λ m. (m % 128) ∷ (n / 128 / 128 % 128) ∷ (n / 128 % 128) ∷ (128 + n % 128) ∷ []) thrice
    ∙ ap (λ m. (n / 2 ^ 21 % 128) ∷ (m % 128) ∷ (n / 128 % 128) ∷ (128 + n % 128) ∷ []) twice

pub code_of_5 : (n : ℕ) → 2 ^ 28 ≤ n → n < 2 ^ 32 → code_of n ≡ (n / 2 ^ 28 % 128) ∷ (n / 2 ^ 21 % 128) ∷ (n / 2 ^ 14 % 128) ∷ (n / 128 % 128) ∷ (128 + n % 128) ∷ []
unfolding code_of
code_of_5 n low high =
    let twice : n / 128 / 128 ≡ n / 2 ^ 14 = omega arith in
    let thrice : n / 128 / 2 ^ 14 ≡ n / 2 ^ 21 = omega arith in
    let four_times : n / 128 / 2 ^ 21 ≡ n / 2 ^ 28 = omega arith in
    ap (λ xs. xs ++ (128 + n % 128) ∷ []) (digits_4 (n / 128) (omega arith) (omega arith))
    ∙ ap (λ m. (m % 128) ∷ (n / 128 / 2 ^ 14 % 128) ∷ (n / 128 / 128 % 128) ∷ (n / 128 % 128) ∷ (128 + n % 128) ∷ []) four_times
    ∙ ap (λ m. (n / 2 ^ 28 % 128) ∷ (m % 128) ∷ (n / 128 / 128 % 128) ∷ (n / 128 % 128) ∷ (128 + n % 128) ∷ []) thrice
    ∙ ap (λ m. (n / 2 ^ 28 % 128) ∷ (n / 2 ^ 21 % 128) ∷ (m % 128) ∷ (n / 128 % 128) ∷ (128 + n % 128) ∷ []) twice

pub ruleset widths = (code_of_1, code_of_2, code_of_3, code_of_4, code_of_5)

-- one digit more
pub digits_more : (n : ℕ) → 0 < n → digits_of 128 (n / 128) ++ (n % 128) ∷ [] ≡ digits_of 128 n
digits_more n pos = sym (digits_of_step 128 n (omega arith) pos)
