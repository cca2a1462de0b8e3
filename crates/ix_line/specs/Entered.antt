-- What holds of the matches of a command that the words name, once `clap` finds no fault.
use Rattle.std.specs.Prelude.{◌≡◌, ◌<◌, List, [], ◌∷◌, find, length, true, IsSomeAnd}
use Rattle.clap.specs.Simple.{App, Shape, label_of}
use Rattle.clap.specs.Walk.{Row, Rule, Text, answers_to, arg_by_id, reading_by}
use Rattle.clap.specs.Faults.{values_fault}
use Rattle.clap.specs.Takes.{is_given}

-- P of each element, as one proof an element
abbrev pub Each : {X : Type 0} → (X → Type 0) → List X → Type 0
Each P [] = Unit {0}
Each P (x ∷ xs) = P x × Each P xs

-- what was found for an argument: at least one value, and each is one that the argument takes
pub record ValuesFit (a : Rule) (r : Row) : Type 0 where
  pub some : 0 < length r.values
  pub pass : values_fault a r.values ≡ []
  pub read : r.reading ≡ reading_by a

-- the row belongs to an argument of the command
abbrev pub RowFits : List Rule → Row → Type 0
RowFits rules r = IsSomeAnd (arg_by_id rules r.id) (λ a. ValuesFit a r)

-- the rows are those of arguments of the command, and no required one is missing
pub record FitsShape (s : Shape) (rows : List Row) : Type 0 where
  pub fits : Each (RowFits s.rules) rows
  pub required : Each (λ a. a.required ≡ true → is_given a.id rows ≡ true) s.rules

-- a command of this name has these rows
abbrev pub Entered : App → Text → List Row → Type 0
Entered app name rows =
    IsSomeAnd (find (λ s. answers_to name (label_of s)) app.subs) (λ s. FitsShape s rows)
