-- The gaps of an ascending list (Introduction to Information Retrieval, 5.3.1).
use Rattle.std.specs.Prelude.{ℕ, ◌+◌, ◌-◌, ◌<◌, ◌≤◌, List, [], ◌∷◌, ⊤}

-- The numbers ascend strictly from `low` on, and all are below `top`.
abbrev pub Ascends : ℕ → ℕ → List ℕ → Type 0
Ascends low top [] = ⊤
Ascends low top (x ∷ xs) = (low ≤ x) × (x < top) × Ascends (x + 1) top xs

-- Each number less its predecessor, where `next` is one above the predecessor of the first.
abbrev pub gaps_from : ℕ → List ℕ → List ℕ
gaps_from next [] = []
gaps_from next (x ∷ xs) = (x + 1 - next) ∷ gaps_from (x + 1) xs

-- The same with -1 before the first, so that each gap of an ascending list is at least 1.
abbrev pub gaps_of : List ℕ → List ℕ
gaps_of xs = gaps_from 0 xs

-- The numbers that have these gaps, where `next` is one above the predecessor of the first.
abbrev pub numbers_from : ℕ → List ℕ → List ℕ
numbers_from next [] = []
numbers_from next (gap ∷ gaps) = (next + gap - 1) ∷ numbers_from (next + gap) gaps

-- The same with -1 before the first.
abbrev pub numbers_of : List ℕ → List ℕ
numbers_of gaps = numbers_from 0 gaps

-- One above the last number, or `next` where there is none.
abbrev pub next_after : ℕ → List ℕ → ℕ
next_after next [] = next
next_after next (x ∷ xs) = next_after (x + 1) xs
