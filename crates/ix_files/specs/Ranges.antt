-- Sources of which no read fails.
use Rattle.std.specs.Prelude.{◌≡◌, ◌≤◌, ℕ, List, Option, Some, length}

-- The bytes of a source are known and as many as this, or more, and no read of them fails.
pub record HasBytes (contents : Option (List ℕ)) (sure : Type 0) (size : ℕ) : Type 0 where
  pub bytes : List ℕ
  pub known : contents ≡ Some bytes
  pub enough : size ≤ length bytes
  pub never_fails : sure
