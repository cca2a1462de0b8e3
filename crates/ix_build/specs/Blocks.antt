-- How a cut shares documents among blocks, one after another: a block ends with the document at which it becomes full.
use Rattle.std.specs.Prelude.{◌≡◌, ℕ, ◌+◌, ◌<◌, ◌≤◌, List, [], ◌∷◌, ◌++◌, length, take, flat_map, All, Some, slice_get}
use Rattle.ix_text.specs.Collections.{NamedText}
use Rattle.ix_text.specs.Sizes.{text_bytes}
use Rattle.ix_build.specs.declared.plan.Cut.{Cut}
use Rattle.ix_build.specs.declared.plan.Cut.TheVariants.{Docs, Bytes}

-- the number of a cut
abbrev pub cut_number : Cut → ℕ
cut_number (Docs n) = n
cut_number (Bytes n) = n

-- The other cut is of the same kind, and no block of it is full with more.
abbrev pub IsNoCoarser : Cut → Cut → Type 0
IsNoCoarser (Docs n) (Docs m) = m ≤ n
IsNoCoarser (Docs n) (Bytes m) = ⊥
IsNoCoarser (Bytes n) (Docs m) = ⊥
IsNoCoarser (Bytes n) (Bytes m) = m ≤ n

-- what a document adds to its block: itself, or the bytes of its text
abbrev pub weight_of : Cut → NamedText → ℕ
weight_of (Docs n) text = 1
weight_of (Bytes n) text = length text.text

-- The block is full: it has as many documents as the cut says, or its texts have as many bytes together.
abbrev pub IsFull : Cut → List NamedText → Type 0
IsFull (Docs n) block = n ≤ length block
IsFull (Bytes n) block = n ≤ text_bytes block

-- No shorter prefix of the block is full.
abbrev pub IsFullNoSooner : Cut → List NamedText → Type 0
IsFullNoSooner cut block = (count : ℕ) → count < length block → ¬ (IsFull cut (take count block))

-- The blocks of texts under a cut. One after another they are the texts. Each ends as soon as it is full; the last one
-- may end before, and has a document. Without texts there is one block, without documents.
pub record AreBlocks (cut : Cut) (texts : List NamedText) (blocks : List (List NamedText)) : Type 0 where
  pub before : List (List NamedText)
  pub last : List NamedText
  pub in_order : blocks ≡ before ++ last ∷ []
  pub whole : flat_map (λ block. block) blocks ≡ texts
  pub full : All (IsFull cut) before
  pub no_sooner : All (IsFullNoSooner cut) blocks
  pub not_empty : 0 < length texts → 0 < length last
  pub one : texts ≡ [] → before ≡ []

-- The place is that of a block of the cut.
pub record IsBlockPlace (cut : Cut) (texts : List NamedText) (place : ℕ) : Type 0 where
  pub blocks : List (List NamedText)
  pub of_cut : AreBlocks cut texts blocks
  pub within : place < length blocks

-- the number of the first element of each block, if the first block begins with this number, and behind them the number
-- at which the last block ends
abbrev pub bounds_from : {X : Type 0} → ℕ → List (List X) → List ℕ
bounds_from first [] = first ∷ []
bounds_from first (block ∷ blocks) = first ∷ bounds_from (first + length block) blocks

-- The bounds of the blocks of texts under a cut.
pub record AreBounds (cut : Cut) (texts : List NamedText) (bounds : List ℕ) : Type 0 where
  pub blocks : List (List NamedText)
  pub of_cut : AreBlocks cut texts blocks
  pub bounds_are : bounds ≡ bounds_from 0 blocks

-- No bound is greater than the next one, and none but perhaps the first is greater than the count.
abbrev pub AscendUpTo : ℕ → List ℕ → Type 0
AscendUpTo count bounds = (place from to : ℕ) → slice_get bounds place ≡ Some from → slice_get bounds (place + 1) ≡ Some to
    → (from ≤ to) × (to ≤ count)
