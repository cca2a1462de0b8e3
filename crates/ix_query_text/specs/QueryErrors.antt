-- The numbers of a query's errors, and what it is for a call to give what a definition says.
use Rattle.std.specs.Prelude.{◌≡◌, ℕ, Result, Ok, Err}
use Rattle.ix_query_text.specs.declared.error.QueryError.{QueryError}
use Rattle.ix_query_text.specs.declared.error.QueryError.TheVariants.{Empty, Unexpected, End, OpenQuote, BadNear, NoWord, OnlyStopWords, BareStar, StarInPhrase, NearWord, LongTerm, Deep, Memory}

-- the place of an error in the list, from 1
abbrev pub number_of : QueryError → ℕ
number_of Empty = 1
number_of (Unexpected offset) = 2
number_of End = 3
number_of OpenQuote = 4
number_of BadNear = 5
number_of NoWord = 6
number_of OnlyStopWords = 7
number_of BareStar = 8
number_of StarInPhrase = 9
number_of NearWord = 10
number_of LongTerm = 11
number_of Deep = 12
number_of Memory = 13

-- One reading after another: the first error stands.
infixl 10 ◌>>=◌
abbrev pub ◌>>=◌ : {A B : Type 0} → Result A QueryError → (A → Result B QueryError) → Result B QueryError
(Ok x) >>= f = f x
(Err e) >>= f = Err e

-- the error is that of the reading, or memory ran out
abbrev pub Fails : {Y : Type 0} → QueryError → Result Y QueryError → Type 0
Fails Memory reading = Unit {0}
Fails e reading = reading ≡ Err e

-- What a call returned, seen by view, is what the reading gives, unless memory ran out.
abbrev pub Gives : {X Y : Type 0} → (X → Y) → Result X QueryError → Result Y QueryError → Type 0
Gives view (Ok x) reading = reading ≡ Ok (view x)
Gives view (Err e) reading = Fails e reading
