-- The numbers of a pattern's errors, and their names, as they are printed.
use Rattle.std.specs.Prelude.{ℕ, List, codes}
use Rattle.ix_gram.specs.declared.error.PatternError.{PatternError}
use Rattle.ix_gram.specs.declared.error.PatternError.TheVariants.{NoStar, BareStar, Memory}

-- the place of an error in the list, from 1
abbrev pub number_of : PatternError → ℕ
number_of NoStar = 1
number_of BareStar = 2
number_of Memory = 3

-- the name of an error
abbrev pub name_of : PatternError → List ℕ
name_of NoStar = codes "NoStar"
name_of BareStar = codes "BareStar"
name_of Memory = codes "Memory"
