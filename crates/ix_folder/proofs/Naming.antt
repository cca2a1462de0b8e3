-- Numbers in decimal, and names that end in one.
use Rattle.std.proofs.Common.{◌≡◌, ◌≢◌, ◌⊎◌, ◌↔◌, ◌+◌, ◌-◌, ◌*◌, ◌<◌, ◌≤◌, ◌^◌, zero, suc, inl, inr, ⊎_elim, ℕ, List, [], ◌∷◌, ◌++◌, Bool, true, Result, Ok, Err, IsTrue, bytes_eq, codes, decimal, drop, get_or, length, refl, sym, ap, subst, ◌∙◌, rules, arith}
use Rattle.std.specs.Str.{all_ascii_digits}
use Rattle.std.specs.Str.Parse.{ParsesUnsigned}
use Rattle.std.specs.Result.{is_ok}
use Rattle.std.proofs.lemmas.Slice.Eq.{bytes_eq-Decides}
use Rattle.std.proofs.lemmas.Fmt.{decimal-digits_value, decimal_digit, first_decimal, parse-decimal}
use Rattle.std.proofs.lemmas.Str.Parse.{IsNumeralModel, numerals_by_fold, parse_plain}
use Rattle.ix_folder.specs.FolderNames.{IsFileName, IsNumber}

abbrev read_on : ℕ → List ℕ → ℕ
read_on n [] = n
read_on n (c ∷ cs) = read_on (10 * n + (c - 48)) cs

own : IsNumeralModel (λ digits. all_ascii_digits digits ≡ true) (read_on 0)
own = numerals_by_fold _ (search rules) read_on (search rules)

pub zero_number : (text : List ℕ) → text ≡ codes "0" → IsNumber text
zero_number text is = record { number = 0; bound = omega arith; spelled = is ∙ sym (decimal_digit 0 (omega arith)) }

-- what is read as a number and begins with no sign and no zero
read_number : {E : Type 0} (text : List ℕ) (result : Result ℕ E) → ParsesUnsigned 64 10 text result → 48 < get_or text 0 0 → is_ok result ≡ true → IsNumber text
read_number {E = E} text (Ok value) parses high ok =
    let is : ((all_ascii_digits text ≡ true) × (0 < length text) × (read_on 0 text < 2 ^ 64)) × (value ≡ read_on 0 text)
    = parse_plain own {E = E} 64 text (Ok value) parses (λ plus. omega (arith, high, plus)) in
    record {
      number = read_on 0 text;
      bound = is.0.2;
      spelled = sym (decimal-digits_value own text is.0.0 is.0.1 (λ first_zero. absurd (omega (arith, high, first_zero))) is.0.2);
    }
read_number text (Err error) parses high ok = cc

number_read : {E : Type 0} (text : List ℕ) (result : Result ℕ E) → ParsesUnsigned 64 10 text result → IsNumber text → is_ok result ≡ true
number_read text result parses is = ap is_ok (parse-decimal 64 is.number text result is.bound is.bound is.spelled parses)

pub high_number : {E : Type 0} (text : List ℕ) (result : Result ℕ E) → ParsesUnsigned 64 10 text result → 48 < get_or text 0 0 → (ok : Bool) → ok ≡ is_ok result → IsTrue ok ↔ IsNumber text
high_number text result parses high ok is = (λ true_ok. read_number text result parses high (sym is ∙ true_ok), λ number. is ∙ number_read text result parses number)

zero_or_more : (number : ℕ) → (number ≡ 0) ⊎ (0 < number)
zero_or_more zero = inl refl
zero_or_more (suc n) = inr (omega arith)

only_zero : (text : List ℕ) → get_or text 0 0 ≤ 48 → IsNumber text → text ≡ codes "0"
only_zero text low is = ⊎_elim
    (λ none. is.spelled ∙ ap decimal none ∙ decimal_digit 0 (omega arith))
    (λ some. let high : 48 < get_or (decimal is.number) 0 0 = first_decimal is.number some is.bound in
    let same : get_or text 0 0 ≡ get_or (decimal is.number) 0 0 = ap (λ (bytes : List ℕ). get_or bytes 0 0) is.spelled in
    absurd (omega (arith, high, same, low)))
    (zero_or_more is.number)

pub low_number : (text : List ℕ) → get_or text 0 0 ≤ 48 → (equal : Bool) → equal ≡ bytes_eq text (codes "0") → IsTrue equal ↔ IsNumber text
low_number text low equal is =
    (λ true_equal. zero_number text ((bytes_eq-Decides text (codes "0")).0 (sym is ∙ true_equal)), λ number. is ∙ (bytes_eq-Decides text (codes "0")).1 (only_zero text low number))

-- ---- names

other_words : (name one other : List ℕ) → name ≡ codes "segment-" ++ one → name ≡ codes "removals-" ++ other → ⊥
other_words name one other is as_well =
    let first : 115 ≡ 114 = ap (λ (bytes : List ℕ). get_or bytes 0 0) (sym is ∙ as_well) in omega (arith, first)

pub segment_number : (name rest : List ℕ) → name ≡ codes "segment-" ++ rest → IsNumber rest ↔ IsFileName name
segment_number name rest is = (
  λ number. inl (record { text = rest; number = number; joined = is }),
  λ file. ⊎_elim
      (λ of. subst IsNumber (ap (drop 8) (sym of.joined ∙ is)) of.number)
      (λ of. absurd (other_words name rest of.text is of.joined))
      file,
)

pub removals_number : (name rest : List ℕ) → name ≡ codes "removals-" ++ rest → IsNumber rest ↔ IsFileName name
removals_number name rest is = (
  λ number. inr (record { text = rest; number = number; joined = is }),
  λ file. ⊎_elim
      (λ of. absurd (other_words name of.text rest of.joined is))
      (λ of. subst IsNumber (ap (drop 9) (sym of.joined ∙ is)) of.number)
      file,
)

pub no_number : (name : List ℕ) → ((rest : List ℕ) → name ≢ codes "segment-" ++ rest) → ((rest : List ℕ) → name ≢ codes "removals-" ++ rest) → ¬ (IsFileName name)
no_number name segment removals file = ⊎_elim (λ of. segment of.text of.joined) (λ of. removals of.text of.joined) file
