-- What the lexer's calls of std come to in the words of the definitions.
use Rattle.std.proofs.Common.{◌≡◌, ℕ, ◌+◌, ◌-◌, ◌<◌, ◌≤◌, Bool, true, false, not, ◌&&◌, cond, ltb, List, [], ◌∷◌, length, get_or, Option, Some, None, Result, Ok, Err, refl, ap, ◌∙◌, arith, length-take-le}
use Rattle.std.specs.Prelude.{MatchResult, unwrap_or, position, IsCharBoundary}
use Rattle.std.specs.List.{position_or_len, before_first}
use Rattle.std.specs.Str.{all_ascii_digits}
use Rattle.std.specs.Str.Parse.{ParsesUnsigned, digits_value}
use Rattle.std.proofs.lemmas.Bool.{le-leb, lt-ltb, ltb-true, ltb-false, not-false}
use Rattle.std.proofs.lemmas.Bool.Decides.{nat_tests}
use Rattle.std.proofs.lemmas.List.Sums.{prefix_len-le-length, prefix_len_stops}
use Rattle.std.proofs.lemmas.Str.Parse.{IsNumeralModel, numerals_by_value, tells_all_ascii_digits, parse_plain}
use Rattle.ix_query_text.specs.declared.error.QueryError.TheVariants.{OpenQuote, BadNear}
use Rattle.ix_query_text.specs.Lexemes.{Near, Quoted, ends_run, is_quotation_mark, near_reading, quoted_reading}

pub own : IsNumeralModel (λ digits. all_ascii_digits digits ≡ true) (digits_value 10)
own = numerals_by_value _ tells_all_ascii_digits

not_both : {X : Type 0} (b c : Bool) (x y : X) → (b ≡ true → c ≡ true → ⊥) → cond (b && c) x y ≡ y
not_both true true x y never = absurd (never refl refl)
not_both true false x y never = refl
not_both false c x y never = refl

le-ltb-false : (n : ℕ) → ltb n n ≡ false
le-ltb-false n = grind (arith, nat_tests)

-- what `parse` gives for digits that begin with no plus
pub near_parsed : {E : Type 0} (digits : List ℕ) (r : Result ℕ E) → 49 ≤ get_or digits 0 0 → ParsesUnsigned 16 10 digits r → MatchResult r (λ n. near_reading digits ≡ Ok (Near n)) (λ _. near_reading digits ≡ Err BadNear)
unfolding near_reading
near_parsed {E} digits (Ok n) leads parsed = let p = parse_plain own {E = E} 16 digits (Ok n) parsed (λ e. omega arith) in rw (le-leb _ _ leads, p.0.0, lt-ltb _ _ p.0.2, p.1) refl
near_parsed {E} digits (Err e) leads parsed = let p = parse_plain own {E = E} 16 digits (Err e) parsed (λ e. omega arith) in rw (le-leb _ _ leads) (not_both (all_ascii_digits digits) _ _ _ (λ d s. p (d, some_byte digits leads, ltb-true _ _ s)))
  where
    some_byte : (digits : List ℕ) → 49 ≤ get_or digits 0 0 → 0 < length digits
    some_byte [] leads = absurd (omega arith)
    some_byte (d ∷ digits) leads = omega arith

position_by : (b : Bool) (n m : ℕ) → n ≤ m → ltb n m ≡ b → unwrap_or (cond b (Some n) None) m ≡ n
position_by true n m le e = refl
position_by false n m le e = omega (arith, ltb-false n m e)

-- the place of the first that passes, or the length
position_or_all : {X : Type 0} (p : X → Bool) (xs : List X) → unwrap_or (position p xs) (length xs) ≡ position_or_len p xs
position_or_all p xs = position_by _ (position_or_len p xs) (length xs) (prefix_len-le-length (λ x. not (p x)) xs) refl

-- where the search for the end of a run comes to
pub end_of_run : (text bytes : List ℕ) (where_found : Option ℕ) (end : ℕ) → bytes ≡ text → where_found ≡ position ends_run bytes → end ≡ unwrap_or where_found (length text) → end ≡ position_or_len ends_run text
end_of_run text bytes where_found end same came is = is ∙ ap (λ o. unwrap_or o (length text)) (came ∙ ap (position ends_run) same) ∙ position_or_all ends_run text

ends_run_ascii : (b : ℕ) → ends_run b ≡ true → b < 128
ends_run_ascii b h = grind (arith, nat_tests)

-- a text may be cut where a run ends
pub run_cut : (text : List ℕ) → IsCharBoundary text (position_or_len ends_run text)
run_cut text = (
  prefix_len-le-length (λ x. not (ends_run x)) text,
  λ within lead. let h : get_or text (position_or_len ends_run text) 0 < 128 = ends_run_ascii _ (not-false _ (prefix_len_stops (λ x. not (ends_run x)) text 0 within)) in absurd (omega arith),
)

-- a quotation mark is there
pub quoted_found : (rest quoted : List ℕ) → quoted ≡ before_first is_quotation_mark rest → position_or_len is_quotation_mark rest < length rest → quoted_reading rest ≡ Ok (Some (Quoted quoted), length quoted + 2 - 1)
unfolding quoted_reading
quoted_found rest quoted is within =
    let n : length quoted ≡ position_or_len is_quotation_mark rest = ap length is ∙ length-take-le (position_or_len is_quotation_mark rest) rest (omega arith) in
    let m : length quoted + 2 - 1 ≡ position_or_len is_quotation_mark rest + 1 = omega arith in
    rw (lt-ltb _ _ within, m, is) refl

-- and here it is not
pub quoted_open : (rest : List ℕ) → position_or_len is_quotation_mark rest ≡ length rest → quoted_reading rest ≡ Err OpenQuote
unfolding quoted_reading
quoted_open rest is = rw (is, le-ltb-false (length rest)) refl
