-- Answers as they are printed.
use Rattle.std.specs.Prelude.{List, [], ◌∷◌, ◌++◌, length, flat_map, decimal}
use Rattle.ix_query.specs.Tree.{Tree}
use Rattle.ix_script.specs.Runs.{Answered}
use Rattle.ix_script.specs.Steps.{Add, Ask, Publish, Remove, Step, Text}

-- a name, LF
abbrev pub name_line : Text → Text
name_line name = name ++ 10 ∷ []

-- how many names there are, a TAB, the query, LF, and the line of each name
abbrev pub answer_lines : Answered → Text
answer_lines answered = decimal (length answered.names) ++ 9 ∷ (answered.query ++ 10 ∷ flat_map name_line answered.names)

-- the lines of answers, one after another
abbrev pub lines_of : List Answered → Text
lines_of answers = flat_map answer_lines answers

-- the queries that steps ask, in order
abbrev pub asked_in : List Step → List Tree
asked_in [] = []
asked_in (Add path ∷ steps) = asked_in steps
asked_in (Publish ∷ steps) = asked_in steps
asked_in (Ask query tree ∷ steps) = tree ∷ asked_in steps
asked_in (Remove number ∷ steps) = asked_in steps

-- the asks among steps with the names that were found, one list for each
abbrev pub answered_with : List Step → List (List Text) → List Answered
answered_with [] names = []
answered_with (Add path ∷ steps) names = answered_with steps names
answered_with (Publish ∷ steps) names = answered_with steps names
answered_with (Ask query tree ∷ steps) [] = []
answered_with (Ask query tree ∷ steps) (found ∷ names) = record { query = query; names = found } ∷ answered_with steps names
answered_with (Remove number ∷ steps) names = answered_with steps names
