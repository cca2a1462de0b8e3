-- The list of postings that is left of the current term, in the buffered bytes.
use Rattle.std.proofs.Common.{◌≡◌, ◌∷◌, [], ℕ, ◌+◌, List}
use denote.Struct.Props as logic
use Rattle.ix_vbyte.specs.Gaps.{Ascends, next_after}
use Rattle.ix_vbyte.specs.Postings.{documents_of}
use Rattle.ix_vbyte.specs.Walking.{ArePostingsFrom, postings_told}

-- The bytes are those of a list of that many postings, and `after` is one above the last document of them, or `next` if there is none.
pub record SpellsList (next after documents : ℕ) (bytes : List ℕ) : Type 0 where
  pub are : ArePostingsFrom next documents bytes
  pub last : after ≡ next_after next (documents_of (postings_told documents next bytes))

-- that numbers ascend is one fact
Ascends-prop : (low top : ℕ) (xs : List ℕ) → IsProp (Ascends low top xs)
Ascends-prop low top [] = Prim.hlevel logic.props
Ascends-prop low top (x ∷ xs) = Prim.hlevel (logic.props, Ascends-prop (x + 1) top xs)

-- and so is that a list is left
pub SpellsList-prop : (next after documents : ℕ) (bytes : List ℕ) → IsProp (SpellsList next after documents bytes)
SpellsList-prop next after documents bytes = Prim.hlevel (logic.props, Ascends-prop)
