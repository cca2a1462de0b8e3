-- One line of a script: what it may be, and how its numbers are written.
use Rattle.std.proofs.Common.{◌≡◌, ◌≢◌, ℕ, ◌^◌, ◌<◌, ◌≤◌, true, [], ◌++◌, length, Option, Some, None, Result, Ok, Err, refl, sym, ap, ◌∙◌, arith}
use Rattle.std.specs.Prelude.{codes, decimal, MatchOption}
use Rattle.std.specs.Str.Parse.{ParsesUnsigned}
use Rattle.std.proofs.lemmas.Fmt.{decimal_nonempty, parse-decimal}
use Rattle.ix_script.specs.Steps.{Add, Ask, IsNoNumber, IsNumber, Publish, Remove, Removes, RemovesNone, Step, Text, is_filled, line_of}

-- the line of a step is not empty
pub line_filled : (step : Step) → is_filled (line_of step) ≡ true
line_filled (Add path) = refl
line_filled Publish = refl
line_filled (Ask query tree) = refl
line_filled (Remove number) = refl

pub some_byte : (line : Text) → 0 < length line → line ≢ []
some_byte line some empty = let none = ap length empty in absurd (omega arith)

-- ---- numbers of documents

-- what is read of the digits of a number is that number
read_is : {E : Type 0} (digits : Text) (number : ℕ) (read : Result ℕ E) → ParsesUnsigned 32 10 digits read → number < 2 ^ 28 → digits ≡ decimal number → read ≡ Ok number
read_is digits number read parses small is = parse-decimal 32 number digits read (omega arith) (omega arith) is parses

pub not_read : {E : Type 0} (digits : Text) (read : Result ℕ E) (error : E) → ParsesUnsigned 32 10 digits read → read ≡ Err error → IsNoNumber digits
not_read digits read error parses refused number small is = let same = read_is digits number read parses small is in absurd (cc)

pub too_great : {E : Type 0} (digits : Text) (read : Result ℕ E) (other : ℕ) → ParsesUnsigned 32 10 digits read → read ≡ Ok other → 2 ^ 28 ≤ other → IsNoNumber digits
too_great digits read other parses is_read great number small is =
    let same : Ok other ≡ Ok number = sym is_read ∙ read_is digits number read parses small is in
    let equal : other ≡ number = cc in
    omega arith

pub otherwise_written : {E : Type 0} (digits : Text) (read : Result ℕ E) (other : ℕ) → ParsesUnsigned 32 10 digits read → read ≡ Ok other → digits ≢ decimal other → IsNoNumber digits
otherwise_written digits read other parses is_read differs number small is =
    let same : Ok other ≡ Ok number = sym is_read ∙ read_is digits number read parses small is in
    let equal : other ≡ number = cc in
    differs (is ∙ ap decimal (sym equal))

-- what is not behind the word removes none
pub removes_none : (line : Text) → ((rest : Text) → rest ≢ [] → line ≢ codes "remove " ++ rest) → RemovesNone line
removes_none line other number small is = other (decimal number) (λ empty. let none = ap length empty in let some = decimal_nonempty number (omega arith) in omega arith) is

pub removal : (line digits : Text) (found : Option ℕ) → line ≡ codes "remove " ++ digits → MatchOption found (IsNoNumber digits) (IsNumber digits) → MatchOption found (RemovesNone line) (Removes line)
removal line digits None is none = λ number small other. let same : codes "remove " ++ digits ≡ codes "remove " ++ decimal number = sym is ∙ other in none number small (cc)
removal line digits (Some number) is some = (some.0, is ∙ ap (λ l. codes "remove " ++ l) some.1)
