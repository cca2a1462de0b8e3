-- The lexemes of a query's text: brackets, quoted texts, and the runs of other bytes between them and the spaces.
use Rattle.std.specs.Prelude.{ℕ, zero, suc, ◌+◌, ◌-◌, ◌^◌, Bool, ◌&&◌, ◌||◌, List, [], ◌∷◌, length, drop, Option, Some, None, option_map, Result, Ok, Err, nat_eq, nat_lt, nat_le, ◌==◌, if◌then◌else◌, slice_index, bytes_eq, codes}
use Rattle.std.specs.List.{starts_with, before_first, position_or_len}
use Rattle.std.specs.Str.{all_ascii_digits}
use Rattle.std.specs.Str.Parse.{digits_value}
use Rattle.ix_query_text.specs.declared.error.QueryError.{QueryError}
use Rattle.ix_query_text.specs.declared.error.QueryError.TheVariants.{OpenQuote, BadNear}
use Rattle.ix_query_text.specs.declared.lexeme.Sign.{Sign as BorrowedSign}
use Rattle.ix_query_text.specs.declared.lexeme.Sign.TheVariants as borrowed
use Rattle.ix_query_text.specs.declared.lexeme.Lexeme.{Lexeme as BorrowedLexeme}
use Rattle.ix_query_text.specs.declared.lexeme.Front.{Front as BorrowedFront}
use Rattle.ix_query_text.specs.QueryErrors.{◌>>=◌}

-- what a lexeme is: a bracket, a keyword, the text between two quotation marks, or a run
pub data Sign : Type 0 where
  Open : Sign
  Close : Sign
  And : Sign
  Or : Sign
  Not : Sign
  Near : ℕ → Sign
  Quoted : List ℕ → Sign
  Run : List ℕ → Sign

-- a lexeme, behind the offset of its first byte
pub data Lexeme : Type 0 where
  At : ℕ → Sign → Lexeme

-- a lexeme of the code, without where its text lies in memory
abbrev pub sign_of : BorrowedSign → Sign
sign_of borrowed.Open = Open
sign_of borrowed.Close = Close
sign_of borrowed.And = And
sign_of borrowed.Or = Or
sign_of borrowed.Not = Not
sign_of (borrowed.Near distance) = Near distance
sign_of (borrowed.Quoted text) = Quoted text.now
sign_of (borrowed.Run run) = Run run.now

abbrev pub lexeme_of : BorrowedLexeme → Lexeme
lexeme_of lexeme = At lexeme.offset (sign_of lexeme.sign)

abbrev pub front_of : BorrowedFront → Option Sign × ℕ
front_of front = (option_map sign_of front.sign, front.taken - 1)

-- U+0020, the quotation mark and the two brackets end a run
abbrev pub ends_run : ℕ → Bool
ends_run b = b == 32 || b == 34 || b == 40 || b == 41

abbrev pub is_quotation_mark : ℕ → Bool
is_quotation_mark b = b == 34

-- decimal digits that write a number from 1 to 65535 without leading zeros
abbrev pub is_distance : List ℕ → Bool
is_distance digits = nat_le 49 (slice_index digits 0) && all_ascii_digits digits && nat_lt (digits_value 10 digits) (2 ^ 16)

-- what stands behind `NEAR/`
unfoldable pub near_reading : List ℕ → Result Sign QueryError
near_reading digits = if is_distance digits then Ok (Near (digits_value 10 digits)) else Err BadNear

-- what a run is: a keyword, or itself
unfoldable pub run_reading : List ℕ → Result Sign QueryError
run_reading run =
    if bytes_eq run (codes "AND") then Ok And
    else (if bytes_eq run (codes "OR") then Ok Or
    else (if bytes_eq run (codes "NOT") then Ok Not
    else (if starts_with nat_eq run (codes "NEAR/") then near_reading (drop 5 run)
    else Ok (Run run))))

-- The run at the front of a text, which goes on to the first byte that ends it. With the number of its bytes after the first.
unfoldable pub run_front : List ℕ → Result (Option Sign × ℕ) QueryError
run_front text = run_reading (before_first ends_run text) >>= λ sign. Ok (Some sign, position_or_len ends_run text - 1)

-- Behind a quotation mark: the quoted text, which goes to the next one. With the number of bytes up to that one and with it.
unfoldable pub quoted_reading : List ℕ → Result (Option Sign × ℕ) QueryError
quoted_reading rest =
    if nat_lt (position_or_len is_quotation_mark rest) (length rest)
    then Ok (Some (Quoted (before_first is_quotation_mark rest)), position_or_len is_quotation_mark rest + 1)
    else Err OpenQuote

-- What begins with the first of these bytes: nothing at a space, else a lexeme. With the number of its other bytes.
unfoldable pub front_reading : ℕ → List ℕ → Result (Option Sign × ℕ) QueryError
front_reading b rest =
    if b == 32 then Ok (None, 0)
    else (if b == 40 then Ok (Some Open, 0)
    else (if b == 41 then Ok (Some Close, 0)
    else (if b == 34 then quoted_reading rest
    else run_front (b ∷ rest))))

-- the lexemes with one before them, where there is one
abbrev pub with_sign : ℕ → Option Sign → List Lexeme → List Lexeme
with_sign offset None lexemes = lexemes
with_sign offset (Some sign) lexemes = At offset sign ∷ lexemes

-- the lexemes that begin in these bytes after the first `skipped`, the first byte being at the offset; or the first fault
unfoldable pub lexemes_from : (skipped offset : ℕ) → List ℕ → Result (List Lexeme) QueryError
lexemes_from skipped offset [] = Ok []
lexemes_from (suc skipped) offset (b ∷ rest) = lexemes_from skipped (suc offset) rest
lexemes_from zero offset (b ∷ rest) = front_reading b rest >>= λ front. lexemes_from front.1 (suc offset) rest >>= λ lexemes. Ok (with_sign offset front.0 lexemes)

-- the lexemes of a text, or its first fault
unfoldable pub lexemes_of : List ℕ → Result (List Lexeme) QueryError
lexemes_of text = lexemes_from 0 0 text
