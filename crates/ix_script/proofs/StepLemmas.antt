-- One step of a group, by its place.
use Rattle.std.proofs.Common.{◌≡◌, ◌∙◌, ℕ, zero, suc, ◌<◌, false, List, [], ◌∷◌, ◌++◌, length, map, take, drop, get_or, arith, sym, ap}
use Rattle.std.proofs.lemmas.List.Elements.{All-head, All-tail}
use Rattle.ix_script.specs.Groups.{IsGroup, is_publish}
use Rattle.ix_script.specs.Steps.{step_of}
use Rattle.ix_script.specs.declared.step.Step.{Step as StepTaken}

-- a step of a group publishes nothing
pub quiet_at : (steps : List StepTaken) (place : ℕ) (d : StepTaken) → place < length steps → IsGroup (map step_of steps) → d ≡ get_or steps place d → is_publish (step_of d) ≡ false
quiet_at [] place d low quiet is = absurd (omega arith)
quiet_at (step ∷ steps) zero d low quiet is = ap (λ s. is_publish (step_of s)) is ∙ All-head (λ s. is_publish s ≡ false) (step_of step) (map step_of steps) quiet
quiet_at (step ∷ steps) (suc place) d low quiet is = quiet_at steps place d (omega (arith, low)) (All-tail (λ s. is_publish s ≡ false) (step_of step) (map step_of steps) quiet) is

-- the steps before a step, it, and those behind it
pub cut_at : (steps : List StepTaken) (place : ℕ) (d : StepTaken) → place < length steps → d ≡ get_or steps place d
    → map step_of steps ≡ map step_of (take place steps) ++ step_of d ∷ map step_of (drop (suc place) steps)
cut_at [] place d low is = absurd (omega arith)
cut_at (step ∷ steps) zero d low is = ap (λ s. step_of s ∷ map step_of steps) (sym is)
cut_at (step ∷ steps) (suc place) d low is = ap (λ l. step_of step ∷ l) (cut_at steps place d (omega (arith, low)) is)
