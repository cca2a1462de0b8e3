-- In which order sources give their terms: the least term first, and of one term the documents of the lowest numbers.
use Rattle.std.specs.Prelude.{◌≡◌, ℕ, ◌+◌, ◌<◌, ◌≤◌, ◌⊎◌, ⊤, List, length, map, Option, Some, None, IsSome, MatchOption, slice_index_or}
use Rattle.std.specs.Cmp.Lexicographic.{slice_cmp}
use Rattle.std.specs.Option.{option_map}
use Rattle.std.specs.Ordering.{nat_cmp}
use Rattle.std.specs.declared.cmp.Ordering.TheVariants.{Less}
use Rattle.ix_run.specs.Heads.{Heading}

-- the number after the last that a source covers
abbrev pub end_of : Heading → ℕ
end_of heading = heading.first + length heading.rows

-- the current term of a source, and the end of its numbers
pub record Key : Type 0 where
  pub term : List ℕ
  pub end : ℕ

-- the key of a source, or none if it has no current term
abbrev pub key_of : {S : Type 0} → (S → Heading) → (S → Option (List ℕ)) → S → Option Key
key_of heading current source = option_map (λ term. record { term = term; end = end_of (heading source) }) (current source)

-- a lower term, or the same one with numbers that end no later
abbrev pub IsUpTo : Key → Key → Type 0
IsUpTo one other = (slice_cmp nat_cmp one.term other.term ≡ Less) ⊎ ((one.term ≡ other.term) × (one.end ≤ other.end))

-- the same, and no key comes after each one
abbrev pub ComesFirst : Option Key → Option Key → Type 0
ComesFirst one None = ⊤
ComesFirst one (Some other) = MatchOption one ⊥ (λ key. IsUpTo key other)

-- the keys of sources
abbrev pub keys_of : {S : Type 0} → (S → Heading) → (S → Option (List ℕ)) → List S → List (Option Key)
keys_of heading current sources = map (key_of heading current) sources

-- the key at a place
abbrev pub key_at : List (Option Key) → ℕ → Option Key
key_at keys place = slice_index_or keys place None

-- The place has the least key of all.
pub record HoldsFirst (keys : List (Option Key)) (place : ℕ) : Type 0 where
  pub within : place < length keys
  pub there : IsSome (key_at keys place)
  pub first : (other : ℕ) → other < length keys → ComesFirst (key_at keys place) (key_at keys other)
