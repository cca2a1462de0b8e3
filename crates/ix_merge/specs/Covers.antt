-- Which numbers of documents sources cover, and the lowest number that they do not cover exactly once.
use Rattle.std.specs.Prelude.{◌≡◌, ℕ, ◌+◌, ◌<◌, ◌≤◌, ◌&&◌, Bool, List, length, nat_le, nat_lt, count_by}
use Rattle.ix_run.specs.Heads.{Heading}

-- a source with n documents covers n numbers: its first one and those that follow
abbrev pub covers : ℕ → Heading → Bool
covers number heading = nat_le heading.first number && nat_lt number (heading.first + length heading.rows)

-- how many sources cover a number
abbrev pub times_covered : List Heading → ℕ → ℕ
times_covered headings number = count_by (covers number) headings

-- Each number below the count is covered once, and no other one.
pub record Cover (headings : List Heading) (count : ℕ) : Type 0 where
  pub once : (number : ℕ) → number < count → times_covered headings number ≡ 1
  pub no_other : (number : ℕ) → count ≤ number → times_covered headings number ≡ 0

-- The number is the lowest that is not covered once: no source covers it, and one covers a greater number.
pub record IsGap (headings : List Heading) (number : ℕ) : Type 0 where
  pub before : (lower : ℕ) → lower < number → times_covered headings lower ≡ 1
  pub none : times_covered headings number ≡ 0
  pub greater : ℕ
  pub behind : number < greater
  pub covered : 0 < times_covered headings greater

-- The number is the lowest that is not covered once: two sources or more cover it.
pub record IsOverlap (headings : List Heading) (number : ℕ) : Type 0 where
  pub before : (lower : ℕ) → lower < number → times_covered headings lower ≡ 1
  pub several : 1 < times_covered headings number
