-- The names of a query's errors, as they are printed.
use Rattle.std.specs.Prelude.{ℕ, List, ◌++◌, codes, decimal}
use Rattle.ix_query_text.specs.declared.error.QueryError.{QueryError}
use Rattle.ix_query_text.specs.declared.error.QueryError.TheVariants.{Empty, Unexpected, End, OpenQuote, BadNear, NoWord, OnlyStopWords, BareStar, StarInPhrase, NearWord, LongTerm, Deep, Memory}

-- the name of an error, with its offset in brackets
abbrev pub name_of : QueryError → List ℕ
name_of Empty = codes "Empty"
name_of (Unexpected offset) = codes "Unexpected(" ++ (decimal offset ++ codes ")")
name_of End = codes "End"
name_of OpenQuote = codes "OpenQuote"
name_of BadNear = codes "BadNear"
name_of NoWord = codes "NoWord"
name_of OnlyStopWords = codes "OnlyStopWords"
name_of BareStar = codes "BareStar"
name_of StarInPhrase = codes "StarInPhrase"
name_of NearWord = codes "NearWord"
name_of LongTerm = codes "LongTerm"
name_of Deep = codes "Deep"
name_of Memory = codes "Memory"
