-- Which tokens were claimed.
use Rattle.std.specs.Prelude.{◌≡◌, ℕ, ◌≤◌, ◌↔◌, ◌++◌, List, ⊤, IsTrue}
use Rattle.ix_postings.specs.TokenMarks.{HoldsNumbers, room}
use Rattle.ix_text.specs.TokenNumbers.{AreDistinct}
use Rattle.ix_file.specs.declared.open.claims.Claims.{Claims}
use Rattle.ix_file.specs.declared.open.claims.Claims.TheVariants.{Marked, Listed}

-- exactly these numbers were claimed, one by one
unfoldable pub HasClaimed : Claims → List ℕ → Type 0
HasClaimed (Marked marks doubled) numbers = HoldsNumbers marks numbers × (IsTrue doubled ↔ ¬ (AreDistinct numbers))
HasClaimed (Listed listed) numbers = listed.items ≡ numbers

-- behind what was claimed before, these numbers were claimed
abbrev pub HaveClaimed : Claims → Claims → List ℕ → Type 0
HaveClaimed old new more = (numbers : List ℕ) → HasClaimed old numbers → HasClaimed new (numbers ++ more)

-- each number below the top may be claimed
unfoldable pub HasRoom : Claims → ℕ → Type 0
HasRoom (Marked marks doubled) top = top ≤ room marks
HasRoom (Listed listed) top = ⊤

-- how many marks there are: a bit each
abbrev pub mark_count : Claims → ℕ
mark_count (Marked marks doubled) = room marks
mark_count (Listed listed) = 0
