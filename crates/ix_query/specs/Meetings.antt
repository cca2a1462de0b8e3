-- Where terms meet in a document, by their lists of postings.
use Rattle.std.specs.Prelude.{◌≡◌, ◌≢◌, ℕ, ◌+◌, ◌-◌, ◌≤◌, ◌^◌, ◌⊎◌, List, [], Option, Some, option_map, slice_get, Contains, IsSomeAnd}
use Rattle.ix_text.specs.Parts.{Posting, HasPosition}
use Rattle.ix_file.specs.Postings.{ArePostings}
use Rattle.ix_query.specs.Satisfaction.{distance_between}
use Rattle.ix_query.specs.Streams.{first_of}

-- two positions, one of each list, differ by 1 to the distance
pub record AreClose (first second : List ℕ) (distance : ℕ) : Type 0 where
  pub one : ℕ
  pub other : ℕ
  pub first_has : Contains first one
  pub second_has : Contains second other
  pub apart : 1 ≤ distance_between one other
  pub near : distance_between one other ≤ distance

-- a position differs from another by 1 to the distance, or, if the two are one, from the first behind that
abbrev pub IsCloseTo : ℕ → ℕ → List ℕ → ℕ → Type 0
IsCloseTo one other behind distance =
    ((one ≢ other) × (distance_between one other ≤ distance)) ⊎ ((one ≡ other) × IsSomeAnd (first_of behind) (λ next. next - one ≤ distance))

-- the terms are at two positions of the document that differ by 1 to the distance
pub record HasNear (first second : List Posting) (distance number : ℕ) : Type 0 where
  pub one : ℕ
  pub other : ℕ
  pub first_has : HasPosition first number one
  pub second_has : HasPosition second number other
  pub apart : 1 ≤ distance_between one other
  pub near : distance_between one other ≤ distance

-- The terms of a phrase are in the document, each as far behind one start as its place in the phrase: the first at
-- `place`, and the others at `places`.
pub record HasPhraseIn (first : List Posting) (place : ℕ) (others : List (List Posting)) (places : List ℕ) (number : ℕ) : Type 0 where
  pub start : ℕ
  pub first_has : HasPosition first number (start + place)
  pub others_have : (k : ℕ) (list : List Posting) (there : ℕ) → slice_get others k ≡ Some list → slice_get places k ≡ Some there → HasPosition list number (start + there)

-- where a phrase may start by one of its terms: the term's place in it, and positions of the term
abbrev pub Starts : Type 0
Starts = ℕ × List ℕ

-- a phrase may start at the position
abbrev pub StartsAt : Starts → ℕ → ℕ → Type 0
StartsAt start position _ = Contains start.1 (position + start.0)

-- where a term lets the phrase start in the first document of its postings, if there is one
pub record IsStart (postings : List Posting) (place : ℕ) (start : Option Starts) : Type 0 where
  pub is : start ≡ option_map (λ posting. (place, posting.1)) (first_of postings)
  pub lawful : ArePostings 0 (2 ^ 32 - 1) postings

-- the same of each term
abbrev pub AreStarts : List (List Posting) → List ℕ → List Starts → Type 0
AreStarts lists places starts =
    (k : ℕ) (list : List Posting) (place : ℕ) → slice_get lists k ≡ Some list → slice_get places k ≡ Some place → IsStart list place (slice_get starts k)

-- one of the terms has no document
abbrev pub HaveNoStart : List (List Posting) → Type 0
HaveNoStart lists = (k : ℕ) × (slice_get lists k ≡ Some [])
