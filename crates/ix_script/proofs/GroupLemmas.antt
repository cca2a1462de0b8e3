-- Where a script is cut into groups.
use Rattle.std.proofs.Common.{◌≡◌, ℕ, zero, suc, ◌<◌, true, false, List, [], ◌∷◌, ◌++◌, length, map, get_or, take, drop, refl, ap, arith}
use Rattle.std.proofs.lemmas.List.Elements.{All-nil, All-cons, All-head, All-tail}
use Rattle.ix_script.specs.Groups.{IsGroup, is_publish}
use Rattle.ix_script.specs.Steps.{Add, Ask, Publish, Remove, Step, step_of}
use Rattle.ix_script.specs.declared.step.Step.{Step as StepTaken}

-- this many steps at the front publish nothing
abbrev pub NonePublish : ℕ → List StepTaken → Type 0
NonePublish place steps = IsGroup (map step_of (take place steps))

pub one_more : (steps : List StepTaken) (place : ℕ) (d : StepTaken) → place < length steps → NonePublish place steps → is_publish (step_of (get_or steps place d)) ≡ false → NonePublish (suc place) steps
one_more [] place d low none quiet = absurd (omega arith)
one_more (step ∷ steps) zero d low none quiet = All-cons (λ s. is_publish s ≡ false) (step_of step) [] quiet (All-nil (λ s. is_publish s ≡ false))
one_more (step ∷ steps) (suc place) d low none quiet =
    All-cons (λ s. is_publish s ≡ false) (step_of step) (map step_of (take (suc place) steps)) (All-head (λ s. is_publish s ≡ false) (step_of step) (map step_of (take place steps)) none)
    (one_more steps place d (omega arith) (All-tail (λ s. is_publish s ≡ false) (step_of step) (map step_of (take place steps)) none) quiet)

publishes : (step : Step) → is_publish step ≡ true → step ≡ Publish
publishes (Add path) is = absurd (cc)
publishes Publish is = refl
publishes (Ask query tree) is = absurd (cc)
publishes (Remove number) is = absurd (cc)

pub cut_here : (steps : List StepTaken) (place : ℕ) (d : StepTaken) → place < length steps → is_publish (step_of (get_or steps place d)) ≡ true
    → map step_of steps ≡ map step_of (take place steps) ++ Publish ∷ map step_of (drop (suc place) steps)
cut_here [] place d low is = absurd (omega arith)
cut_here (step ∷ steps) zero d low is = ap (λ s. s ∷ map step_of steps) (publishes (step_of step) is)
cut_here (step ∷ steps) (suc place) d low is = ap (λ l. step_of step ∷ l) (cut_here steps place d (omega arith) is)
