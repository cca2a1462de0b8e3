-- What steps do, one after another: a group of steps does what its additions and removals do, and answers what it asks.
use Rattle.std.proofs.Common.{◌≡◌, List, [], ◌∷◌, ◌++◌, length, refl, sym, ap, subst, suc, Result, Ok, Err, IfOk}
use Rattle.ix_live.specs.Operations.{Operation}
use Rattle.ix_query.specs.Tree.{Tree}
use Rattle.ix_script.specs.Answers.{AreAnswers}
use Rattle.ix_script.specs.PrintedAnswers.{answered_with, asked_in}
use Rattle.ix_script.specs.Runs.{Changes, Progress, Runs}
use Rattle.ix_script.specs.Steps.{Add, Ask, Publish, Remove, Step, Text}

module _ (holds : Text → Text → Type 0) (stop : List Text) where
  -- additions and removals, and then more
  pub changes_then : (steps more : List Step) (before between after : Progress) → Changes holds stop steps before between → Changes holds stop more between after
      → Changes holds stop (steps ++ more) before after
  changes_then [] more before between after changed then = subst (λ (p : Progress). Changes holds stop more p after) changed then
  changes_then (Add path ∷ steps) more before between after (middle, does, changed) then = (middle, does, changes_then steps more middle between after changed then)
  changes_then (Publish ∷ steps) more before between after changed then = absurd changed
  changes_then (Ask query tree ∷ steps) more before between after changed then = changes_then steps more before between after changed then
  changes_then (Remove number ∷ steps) more before between after (middle, does, changed) then = (middle, does, changes_then steps more middle between after changed then)

  -- what a group does, of what its additions and removals do and of its answers
  pub group_runs : (steps : List Step) (names : List (List Text)) (before after : Progress) → Changes holds stop steps before after
      → AreAnswers stop before.published (asked_in steps) names → Runs holds stop steps before after (answered_with steps names)
  group_runs [] names before after changed are = (changed, refl)
  group_runs (Add path ∷ steps) names before after (middle, (documents, held, is, none), changed) are =
      let same = ap (λ (p : Progress). p.published) is in
      let later = subst (λ operations. AreAnswers stop operations (asked_in steps) names) (sym same) are in
      (middle, [], answered_with steps names, (documents, held, is, none), group_runs steps names middle after changed later, refl)
  group_runs (Publish ∷ steps) names before after changed are = absurd changed
  group_runs (Ask query tree ∷ steps) [] before after changed are = absurd are
  group_runs (Ask query tree ∷ steps) (found ∷ names) before after changed are =
      (before, record { query = query; names = found } ∷ [], answered_with steps names, (found, are.0, refl, refl), group_runs steps names before after changed are.1, refl)
  group_runs (Remove number ∷ steps) names before after (middle, (low, is, none), changed) are =
      let same = ap (λ (p : Progress). p.published) is in
      let later = subst (λ operations. AreAnswers stop operations (asked_in steps) names) (sym same) are in
      (middle, [], answered_with steps names, (low, is, none), group_runs steps names middle after changed later, refl)

-- there are as many answers as queries
pub as_many_answers : (stop : List Text) (operations : List Operation) (queries : List Tree) (names : List (List Text)) → AreAnswers stop operations queries names → length names ≡ length queries
as_many_answers stop operations [] [] are = refl
as_many_answers stop operations [] (found ∷ names) are = absurd are
as_many_answers stop operations (query ∷ queries) [] are = absurd are
as_many_answers stop operations (query ∷ queries) (found ∷ names) are = ap suc (as_many_answers stop operations queries names are.1)

-- two facts of what went well make a third
pub ok_of_both : {T E : Type 0} (result : Result T E) (P Q R : T → Type 0) → ((value : T) → P value → Q value → R value) → IfOk result P → IfOk result Q → IfOk result R
ok_of_both (Ok value) P Q R make one other = make value one other
ok_of_both (Err error) P Q R make one other = tt
