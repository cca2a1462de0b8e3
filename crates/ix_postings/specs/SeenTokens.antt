-- Tokens that were seen, one by one.
use Rattle.std.specs.Prelude.{ℕ, List, ◌++◌}

-- Behind tokens that were seen before, and may be, these were seen, and may be with them.
abbrev pub SeesMore : (List ℕ → Type 0) → (List ℕ → Type 0) → (List ℕ → Type 0) → List ℕ → Type 0
SeesMore admits old new more = (numbers : List ℕ) → old numbers → admits numbers → admits (numbers ++ more) × new (numbers ++ more)
