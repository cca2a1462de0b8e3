-- Streams of ascending document numbers: what one has left, and what asking it for a number leaves.
use Rattle.std.specs.Prelude.{ℕ, ◌-◌, ◌^◌, ◌<◌, ◌≤◌, ◌↔◌, ◌≡◌, List, [], ◌∷◌, Option, None, Some, slice_get, MatchOption, nat_lt, if◌then◌else◌, Contains}
use Rattle.ix_file.specs.Gaps.{Ascends}

-- numbers, each with places of its own: in a list of postings a document's number with its positions
abbrev pub Pairs : Type 1
Pairs = ℕ → ℕ → Type 0

-- the number is there, with some place
abbrev pub Have : Pairs → ℕ → Type 0
Have there number = (place : ℕ) × there number place

-- the number is the first there, and one that a document may have
pub record IsFirst (there : Pairs) (number : ℕ) : Type 0 where
  pub holds : Have there number
  pub first : (n place : ℕ) → there n place → number ≤ n
  pub below : number < 2 ^ 32 - 1

-- A stream sought the first number that is not below `low`: all below it are gone, nothing else is, and the
-- answer is the first of what is left.
pub record Reaches (old new : Pairs) (low : ℕ) (answer : Option ℕ) : Type 0 where
  pub kept : (n place : ℕ) → new n place ↔ (old n place × (low ≤ n))
  pub found : MatchOption answer ((n place : ℕ) → ¬ (new n place)) (IsFirst new)

module _ {N : Type 0} (has : N → Pairs) where
  -- each stream has the number
  abbrev pub HaveAll : List N → ℕ → Type 0
  HaveAll lists number = (k : ℕ) (list : N) → slice_get lists k ≡ Some list → Have (has list) number

  -- one of the streams has the number
  abbrev pub HasOne : List N → ℕ → Type 0
  HasOne lists number = (k : ℕ) × (list : N) × (slice_get lists k ≡ Some list) × Have (has list) number

  -- the first stream and each other one have the number
  abbrev pub HaveBoth : N → List N → ℕ → Type 0
  HaveBoth first others number = Have (has first) number × HaveAll others number

-- the numbers from the first on that is not below the one named
abbrev pub from_number : ℕ → List ℕ → List ℕ
from_number low [] = []
from_number low (n ∷ ns) = if nat_lt n low then from_number low ns else n ∷ ns

-- the first of a list
abbrev pub first_of : {X : Type 0} → List X → Option X
first_of [] = None
first_of (x ∷ xs) = Some x

-- what is left of a stream is what it had from the number on
abbrev pub IsPassed : Pairs → Pairs → ℕ → Type 0
IsPassed old new number = (n place : ℕ) → new n place ↔ (old n place × (number ≤ n))

-- nothing was gained, and from the number on nothing is gone
abbrev pub IsSameFrom : Pairs → Pairs → ℕ → Type 0
IsSameFrom old new number = (n place : ℕ) → (new n place → old n place) × (old n place → number ≤ n → new n place)

module _ {N : Type 0} (has : N → Pairs) where
  -- the same of each stream
  abbrev pub ArePassed : List N → List N → ℕ → Type 0
  ArePassed olds news number = (k : ℕ) (old new : N) → slice_get olds k ≡ Some old → slice_get news k ≡ Some new → IsPassed (has old) (has new) number

  abbrev pub AreSameFrom : List N → List N → ℕ → Type 0
  AreSameFrom olds news number = (k : ℕ) (old new : N) → slice_get olds k ≡ Some old → slice_get news k ≡ Some new → IsSameFrom (has old) (has new) number

  -- The streams were asked, one after another, for what is not below a number, up to the first that answered another
  -- one: `high` is that answer, or the number itself if each has it.
  pub record IsPass (olds news : List N) (number high : ℕ) : Type 0 where
    pub above : number ≤ high
    pub kept : AreSameFrom olds news high
    pub next : (n : ℕ) → HaveAll has olds n → number ≤ n → high ≤ n
    pub met : high ≡ number → HaveAll has news number × ArePassed olds news number

  -- one of them had nothing left
  pub record IsPassEnded (olds news : List N) (number : ℕ) : Type 0 where
    pub before : (n : ℕ) → HaveAll has olds n → ¬ (number ≤ n)
    pub after : (n : ℕ) → ¬ (HaveAll has news n)

  -- the number is the current one of each stream
  pub record IsCommon (first_old first_new : N) (olds news : List N) (number : ℕ) : Type 0 where
    pub first : IsPassed (has first_old) (has first_new) number
    pub others : ArePassed olds news number

-- the numbers are all that are there, ascending
pub record AreAll (there : ℕ → Type 0) (numbers : List ℕ) : Type 0 where
  pub ascending : Ascends 0 (2 ^ 32 - 1) numbers
  pub exact : (n : ℕ) → Contains numbers n ↔ there n
