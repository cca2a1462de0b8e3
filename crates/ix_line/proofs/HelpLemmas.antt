-- What a name that is not looked for comes to.
use Rattle.std.proofs.Common.{◌≡◌, ℕ, Bool, true, false, cond, refl, List}
use Rattle.std.specs.Str.{bytes_eq}
use Rattle.ix_line.proofs.Uses.{same_bytes}

-- a test for another name fails
pub otherwise : {X : Type 0} (name own : List ℕ) (one other : X) → (name ≡ own → ⊥) → cond (bytes_eq name own) one other ≡ other
otherwise name own one other differs = go (bytes_eq name own) refl
  where
    go : (b : Bool) → bytes_eq name own ≡ b → cond b one other ≡ other
    go true same = absurd (differs (same_bytes name own same))
    go false e = refl
