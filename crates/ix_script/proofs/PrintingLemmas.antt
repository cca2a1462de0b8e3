-- The asks among steps, one step after another.
use Rattle.std.proofs.Common.{◌≡◌, ℕ, zero, suc, ◌∙◌, ◌+◌, ◌<◌, ◌≤◌, Bool, true, false, ◌||◌, List, [], ◌∷◌, ◌++◌, length, map, take, drop, get_or, refl, sym, ap, ap₂, subst, arith, append-nil, length-append, take-append-drop}
use Rattle.std.specs.Borrow.{Bor}
use Rattle.std.proofs.lemmas.Grind.{flat_map-append}
use Rattle.std.proofs.lemmas.List.{map-append, map_push, take_more}
use Rattle.std.proofs.lemmas.List.Folds.{list_any-append}
use Rattle.ix_query.specs.Tree.{Tree}
use Rattle.ix_script.specs.PrintedAnswers.{answer_lines, answered_with, asked_in, lines_of}
use Rattle.ix_script.specs.Runs.{Answered, is_some_name, some_found}
use Rattle.ix_script.specs.Steps.{Add, Ask, Publish, Remove, Step, Text, step_of}
use Rattle.ix_script.specs.declared.step.Step.{Step as StepTaken}
use Rattle.ix_script.specs.declared.step.Step.TheVariants as taken

-- the queries of steps, and of one step more
pub asked_push : (steps : List Step) (step : Step) → asked_in (steps ++ step ∷ []) ≡ asked_in steps ++ asked_in (step ∷ [])
asked_push [] step = refl
asked_push (Add path ∷ steps) step = asked_push steps step
asked_push (Publish ∷ steps) step = asked_push steps step
asked_push (Ask query tree ∷ steps) step = ap (λ l. tree ∷ l) (asked_push steps step)
asked_push (Remove number ∷ steps) step = asked_push steps step

-- their answers
pub answered_push : (steps : List Step) (step : Step) (names : List (List Text)) → length (asked_in steps) ≤ length names
    → answered_with (steps ++ step ∷ []) names ≡ answered_with steps names ++ answered_with (step ∷ []) (drop (length (asked_in steps)) names)
answered_push [] step names few = refl
answered_push (Add path ∷ steps) step names few = answered_push steps step names few
answered_push (Publish ∷ steps) step names few = answered_push steps step names few
answered_push (Ask query tree ∷ steps) step [] few = absurd (omega (arith, few))
answered_push (Ask query tree ∷ steps) step (found ∷ names) few =
    ap (λ l. record { query = query; names = found } ∷ l) (answered_push steps step names (omega (arith, few)))
answered_push (Remove number ∷ steps) step names few = answered_push steps step names few

-- the first steps as they are taken, and the next
pub next_step : (steps : List StepTaken) (place : ℕ) (step : StepTaken) → place < length steps → step ≡ get_or steps place step
    → map step_of (take (place + 1) steps) ≡ map step_of (take place steps) ++ step_of step ∷ []
next_step steps place step low is =
    ap (map step_of) (take_more steps place step low) ∙ map_push step_of (take place steps) (get_or steps place step) ∙ ap (λ s. map step_of (take place steps) ++ step_of s ∷ []) (sym is)

-- what is asked up to the next step, if it asks
pub next_asked : (steps : List StepTaken) (place : ℕ) (step : StepTaken) (query : Text) (tree : Tree) → place < length steps → step ≡ get_or steps place step → step_of step ≡ Ask query tree
    → asked_in (map step_of (take (place + 1) steps)) ≡ asked_in (map step_of (take place steps)) ++ tree ∷ []
next_asked steps place step query tree low is asks =
    ap asked_in (next_step steps place step low is) ∙ asked_push (map step_of (take place steps)) (step_of step) ∙ ap (λ s. asked_in (map step_of (take place steps)) ++ asked_in (s ∷ [])) asks

-- and if it does not
quiet : (step : StepTaken) → ((query : Bor Text) (tree : Tree) → step ≡ taken.Ask query tree → ⊥) → (asked_in (step_of step ∷ []) ≡ []) × ((names : List (List Text)) → answered_with (step_of step ∷ []) names ≡ [])
quiet (taken.Add path) none = (refl, λ names. refl)
quiet taken.Publish none = (refl, λ names. refl)
quiet (taken.Ask query tree) none = absurd (none query tree refl)
quiet (taken.Remove number) none = (refl, λ names. refl)

pub next_quiet : (steps : List StepTaken) (place : ℕ) (step : StepTaken) → place < length steps → step ≡ get_or steps place step → ((query : Bor Text) (tree : Tree) → step ≡ taken.Ask query tree → ⊥)
    → asked_in (map step_of (take (place + 1) steps)) ≡ asked_in (map step_of (take place steps))
next_quiet steps place step low is none =
    ap asked_in (next_step steps place step low is) ∙ asked_push (map step_of (take place steps)) (step_of step) ∙ ap (λ l. asked_in (map step_of (take place steps)) ++ l) (quiet step none).0
    ∙ append-nil (asked_in (map step_of (take place steps)))

-- fewer steps ask fewer queries
asked_fewer : (steps more : List Step) → length (asked_in steps) ≤ length (asked_in (steps ++ more))
asked_fewer [] more = omega arith
asked_fewer (Add path ∷ steps) more = asked_fewer steps more
asked_fewer (Publish ∷ steps) more = asked_fewer steps more
asked_fewer (Ask query tree ∷ steps) more = omega (arith, asked_fewer steps more)
asked_fewer (Remove number ∷ steps) more = asked_fewer steps more

asked_front : (steps : List StepTaken) (count : ℕ) → length (asked_in (map step_of (take count steps))) ≤ length (asked_in (map step_of steps))
asked_front steps count =
    subst (λ l. length (asked_in (map step_of (take count steps))) ≤ length (asked_in l)) (sym (map-append step_of (take count steps) (drop count steps)) ∙ ap (map step_of) (take-append-drop count steps))
    (asked_fewer (map step_of (take count steps)) (map step_of (drop count steps)))

-- if the next step asks, an answer is left for it
pub answer_left : (steps : List StepTaken) (place : ℕ) (step : StepTaken) (query : Text) (tree : Tree) (count : ℕ) → place < length steps → step ≡ get_or steps place step → step_of step ≡ Ask query tree
    → count ≡ length (asked_in (map step_of steps)) → length (asked_in (map step_of (take place steps))) < count
answer_left steps place step query tree count low is asks all =
    let next = ap length (next_asked steps place step query tree low is asks) in
    omega (arith, next, length-append (asked_in (map step_of (take place steps))) (tree ∷ []), asked_front steps (place + 1), all)

drop_here : {X : Type 0} (xs : List X) (place : ℕ) (d : X) → place < length xs → drop place xs ≡ get_or xs place d ∷ drop (suc place) xs
drop_here [] place d low = absurd (omega arith)
drop_here (x ∷ xs) zero d low = refl
drop_here (x ∷ xs) (suc place) d low = drop_here xs place d (omega arith)

-- the answers up to the next step, if it asks
pub next_answered : (steps : List StepTaken) (names : List (List Text)) (place at : ℕ) (step : StepTaken) (query : Text) (tree : Tree) (found : List Text) → place < length steps
    → step ≡ get_or steps place step → step_of step ≡ Ask query tree → at ≡ length (asked_in (map step_of (take place steps))) → at < length names → found ≡ get_or names at found
    → answered_with (map step_of (take (place + 1) steps)) names ≡ answered_with (map step_of (take place steps)) names ++ record { query = query; names = found } ∷ []
next_answered steps names place at step query tree found low is asks here left same =
    let before = map step_of (take place steps) in
    ap (λ l. answered_with l names) (next_step steps place step low is) ∙ answered_push before (step_of step) names (omega (arith, here, left))
    ∙ ap₂ (λ s n. answered_with before names ++ answered_with (s ∷ []) (drop n names)) asks (sym here)
    ∙ ap (λ l. answered_with before names ++ answered_with (Ask query tree ∷ []) l) (drop_here names at found left)
    ∙ ap (λ n. answered_with before names ++ record { query = query; names = n } ∷ []) (sym same)

-- and if it does not
pub next_unanswered : (steps : List StepTaken) (names : List (List Text)) (place : ℕ) (step : StepTaken) → place < length steps
    → step ≡ get_or steps place step → ((query : Bor Text) (tree : Tree) → step ≡ taken.Ask query tree → ⊥) → length (asked_in (map step_of (take place steps))) ≤ length names
    → answered_with (map step_of (take (place + 1) steps)) names ≡ answered_with (map step_of (take place steps)) names
next_unanswered steps names place step low is none few =
    let before = map step_of (take place steps) in
    ap (λ l. answered_with l names) (next_step steps place step low is) ∙ answered_push before (step_of step) names few
    ∙ ap (λ l. answered_with before names ++ l) ((quiet step none).1 (drop (length (asked_in before)) names)) ∙ append-nil (answered_with before names)

-- no more is asked so far than there are answers
pub few_asked : (steps : List StepTaken) (place count : ℕ) → count ≡ length (asked_in (map step_of steps)) → length (asked_in (map step_of (take place steps))) ≤ count
few_asked steps place count all = omega (arith, all, asked_front steps place)

-- the lines of one answer more
pub lines_push : (answers : List Answered) (answered : Answered) → lines_of (answers ++ answered ∷ []) ≡ lines_of answers ++ answer_lines answered
lines_push answers answered = flat_map-append answer_lines answers (answered ∷ []) ∙ ap (λ l. lines_of answers ++ l) (append-nil (answer_lines answered))

or_nothing : (b : Bool) → (b || false) ≡ b
or_nothing true = refl
or_nothing false = refl

-- whether there is a name in one answer more
pub found_push : (answers : List Answered) (answered : Answered) → some_found (answers ++ answered ∷ []) ≡ (some_found answers || is_some_name answered.names)
found_push answers answered =
    list_any-append (λ (a : Answered). is_some_name a.names) answers (answered ∷ []) ∙ ap (λ b. some_found answers || b) (or_nothing (is_some_name answered.names))

-- what a list has at a place, mapped
pub mapped_at : {X Y : Type 0} (f : X → Y) (xs : List X) (place : ℕ) (d : X) → place < length xs → f (get_or xs place d) ≡ get_or (map f xs) place (f d)
mapped_at f [] place d low = absurd (omega arith)
mapped_at f (x ∷ xs) zero d low = refl
mapped_at f (x ∷ xs) (suc place) d low = mapped_at f xs place d (omega (arith, low))
